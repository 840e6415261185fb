-- Places once a plugin was added to them, and places that are filled from the lowest on.
use Prim.Native.Nat.{ℕ, zero, suc, ◌+◌, ◌≤◌, ◌<◌}
use Rattle.std.proofs.Common.{arith, sym, ◌∙◌}
use Rattle.std.proofs.Math.Path.{◌≡◌, ap}
use Rattle.std.specs.Prelude.{true, false, ◌≢◌, List, [], ◌∷◌, length, Some, None}
use Rattle.rules.specs.Holds.{Plugin}
use Rattle.rules.specs.Load.{placed}
use Rattle.rules.specs.Outcomes.{at_lowest_free}
use Rattle.rules_laws.specs.Laws.Tests.{by_test}
use Rattle.memory.specs.Layout.{taken}
use Rattle.memory.specs.View.{plugin_at, place_at, places_from}
use Rattle.memory_places.specs.Changes.{free_from}
use Rattle.memory_places.specs.Free.{free_lowest}
use Rattle.memory_places.specs.Placed.{taken_place, free_place_lem, places_same}

-- what a place says of the words
pub place_taken : (m : List ℕ) (i : ℕ) (q : Plugin) → place_at m i ≡ Some q → taken m i ≡ true
unfolding place_at
place_taken m i q e = by_test (taken m i) (λ t. t) (λ f. let s : None ≡ Some q = rw f at e in cc)

pub place_plugin : (m : List ℕ) (i : ℕ) (q : Plugin) → place_at m i ≡ Some q → plugin_at m i ≡ q
place_plugin m i q e = let s = sym (taken_place m i (place_taken m i q e)) ∙ e in cc

pub place_free : (m : List ℕ) (i : ℕ) → place_at m i ≡ None → taken m i ≡ false
unfolding place_at
place_free m i e = by_test (taken m i) (λ t. let s : Some (plugin_at m i) ≡ None = rw t at e in cc) (λ f. f)

-- q went to place p, the lowest free one of n places from i on
module _ (m m' : List ℕ) (p : ℕ) (q : Plugin) where
  pub here_from : (n i : ℕ) → free_from n m i ≡ Some p → places_from n m' i ≡ at_lowest_free q (places_from n m i) → place_at m' p ≡ Some q
  unfolding free_from places_from
  here_from zero i e f = let z : ◌≡◌ {A = ℕ} 0 1 = cc in absurd (omega arith)
  here_from (suc n) i e f =
      let r = here_from n (i + 1) in
      by_test (taken m i)
      (λ t. let g = rw (taken_place m i t) at f in r (rw t at e) (cc g))
      (λ h. let x : i ≡ p = cc (rw h at e) in let g = rw (free_place_lem m i h) at f in ap (place_at m') (sym x) ∙ cc g)

  -- another plugin stands there then, and no other place changes: it is as if that one went there
  module _ (m'' : List ℕ) (r : Plugin) (here : place_at m'' p ≡ Some r) where
    pub again_from : (n i : ℕ) → free_from n m i ≡ Some p → places_from n m' i ≡ at_lowest_free q (places_from n m i)
        → ((j : ℕ) → i ≤ j → j < i + n → j ≢ p → place_at m'' j ≡ place_at m' j) → places_from n m'' i ≡ at_lowest_free r (places_from n m i)
    unfolding free_from places_from
    again_from zero i e f same = let z : ◌≡◌ {A = ℕ} 0 1 = cc in absurd (omega arith)
    again_from (suc n) i e f same =
        let ih = again_from n (i + 1) in
        by_test (taken m i)
        (λ t. let low = free_lowest n m (i + 1) p (rw t at e) in
        let g = rw (taken_place m i t) at f in
        let head : place_at m'' i ≡ Some (plugin_at m i) = same i (omega arith) (omega arith) (λ x. omega (arith, low.from)) ∙ cc g in
        rw (taken_place m i t, head, ih (rw t at e) (cc g) (λ j a b. same j (omega arith) (omega arith))))
        (λ h. let x : i ≡ p = cc (rw h at e) in
        let g = rw (free_place_lem m i h) at f in
        let head : place_at m'' i ≡ Some r = rw x here in
        let tail : places_from n m'' (i + 1) ≡ places_from n m (i + 1) =
        places_same m' m'' n (i + 1) (λ j a b. same j (omega arith) (omega arith) (λ y. omega arith)) ∙ cc g in
        rw (free_place_lem m i h, head, tail))

-- where plugins stand from the lowest place on, the lowest free place is behind them
pub free_placed : (m : List ℕ) (n i : ℕ) (ps : List Plugin) → places_from n m i ≡ placed n ps → length ps < n → free_from n m i ≡ Some (i + length ps)
unfolding free_from places_from
free_placed m zero i ps e h = absurd (omega arith)
free_placed m (suc n) i [] e h = let s : i + 0 ≡ i = omega arith in rw (place_free m i (cc e), s)
free_placed m (suc n) i (p ∷ ps) e h =
    let s : i + suc (length ps) ≡ i + 1 + length ps = omega arith in
    rw (place_taken m i p (cc e), s) (free_placed m n (i + 1) ps (cc e) (omega arith))
