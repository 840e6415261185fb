-- The registry's places once one is taken or freed.
use Prim.Native.Nat.{ℕ, zero, suc, ◌+◌, ◌<◌, ◌≤◌}
use Rattle.std.proofs.Common.{arith, ◌∙◌, inl, inr, map-id}
use Rattle.std.proofs.Math.Path.{◌≡◌}
use Rattle.std.specs.Prelude.{refl, ◌≢◌, true, false, List, map, eqb, Option, Some, None}
use borrow.Author.Tests.{eq-eqb, ne_eqb, eqb-true, eqb-false}
use Rattle.rules.specs.Holds.{Plugin, held, plugins}
use Rattle.rules.specs.Outcomes.{at_lowest_free, freed_at}
use Rattle.rules_laws.specs.Laws.Tests.{by_test}
use Rattle.rules_laws.specs.Laws.Members.{In}
use Rattle.memory.specs.Layout.{taken, id_at, places}
use Rattle.memory.specs.View.{plugin_at, place_at, places_from, view}
use Rattle.memory.specs.Stores.{Alone}
use Rattle.memory_places.specs.Changes.{free_from, free_at}
use Rattle.memory_places.specs.Free.{free_lowest}
use Rattle.memory_places.specs.Taken.{taken_below}

-- A change place by place.
pub places_map : (f : Option Plugin → Option Plugin) (m m' : List ℕ) (n i : ℕ) → ((j : ℕ) → i ≤ j → j < i + n → place_at m' j ≡ f (place_at m j))
    → places_from n m' i ≡ map f (places_from n m i)
unfolding places_from
places_map f m m' zero i each = refl
places_map f m m' (suc n) i each =
    let e = each i (omega arith) (omega arith) in
    let r = places_map f m m' n (i + 1) (λ j a b. each j (omega arith) (omega arith)) in
    rw (e, r)

pub places_same : (m m' : List ℕ) (n i : ℕ) → ((j : ℕ) → i ≤ j → j < i + n → place_at m' j ≡ place_at m j) → places_from n m' i ≡ places_from n m i
places_same m m' n i same = places_map (λ x. x) m m' n i same ∙ map-id (places_from n m i)

-- The plugin of a taken place is registered.
taken_from : (n : ℕ) (m : List ℕ) (i j : ℕ) → i ≤ j → j < i + n → taken m j ≡ true → In (plugin_at m j) (held (places_from n m i))
unfolding places_from place_at
taken_from zero m i j a b t = absurd (omega arith)
taken_from (suc n) m i j a b t =
    let r = taken_from n m (i + 1) j in
    by_test (eqb i j)
    (λ y. let e = eqb-true i j y in rw (e, t) (inl refl))
    (λ d. let e = eqb-false i j d in let w = r (omega arith) (omega arith) t in by_test (taken m i) (λ h. rw h (inr w)) (λ f. rw f w))

pub taken_in : (m : List ℕ) (j : ℕ) → taken m j ≡ true → In (plugin_at m j) (plugins (view m))
unfolding view
taken_in m j t = taken_from places m 0 j (omega arith) (taken_below m j t) t

-- A plugin goes to the lowest free place.
pub taken_place : (m : List ℕ) (i : ℕ) → taken m i ≡ true → place_at m i ≡ Some (plugin_at m i)
unfolding place_at
taken_place m i t = rw t

pub free_place_lem : (m : List ℕ) (i : ℕ) → taken m i ≡ false → place_at m i ≡ None
unfolding place_at
free_place_lem m i f = rw f

module _ (m m' : List ℕ) (p : ℕ) (q : Plugin) (here : place_at m' p ≡ Some q) where
  add_from : (n i : ℕ) → free_from n m i ≡ Some p → ((j : ℕ) → i ≤ j → j < i + n → j ≢ p → place_at m' j ≡ place_at m j)
      → places_from n m' i ≡ at_lowest_free q (places_from n m i)
  unfolding free_from places_from
  add_from zero i e same = let z : ◌≡◌ {A = ℕ} 0 1 = cc in absurd (omega arith)
  add_from (suc n) i e same =
      let ih = add_from n (i + 1) in
      by_test (taken m i)
      (λ t. let l = free_lowest n m (i + 1) p (rw t at e) in
      let s = same i (omega arith) (omega arith) (λ x. omega (arith, l.from)) ∙ taken_place m i t in
      let r = ih (rw t at e) (λ j a b. same j (omega arith) (omega arith)) in
      rw (s, taken_place m i t, r))
      (λ f. let x : i ≡ p = cc (rw f at e) in
      let r = places_same m m' n (i + 1) (λ j a b. same j (omega arith) (omega arith) (λ y. omega arith)) in
      let s : place_at m' i ≡ Some q = rw x here in
      rw (s, free_place_lem m i f, r))

  pub places_added : free_at m ≡ Some p → ((j : ℕ) → j < places → j ≢ p → place_at m' j ≡ place_at m j)
      → places_from places m' 0 ≡ at_lowest_free q (places_from places m 0)
  unfolding free_at
  places_added e same = add_from places 0 e (λ j a b n. same j b n)

-- A plugin's place is freed.
module _ (m m' : List ℕ) (p : ℕ) (alone : Alone m) (there : taken m p ≡ true) (gone : place_at m' p ≡ None)
    (same : (j : ℕ) → j < places → j ≢ p → place_at m' j ≡ place_at m j) where
  freed_one : (j : ℕ) → j < places → place_at m' j ≡ freed_at (id_at m p) (place_at m j)
  unfolding place_at plugin_at
  freed_one j h = by_test (eqb j p)
      (λ y. let e = eqb-true j p y in rw (e, there, eq-eqb (id_at m p) (id_at m p) refl) gone)
      (λ d. let n = eqb-false j p d in
      same j h n ∙ by_test (taken m j)
      (λ t. rw t (rw (ne_eqb (id_at m j) (id_at m p) (λ e. n (alone j p t there e)))))
      (λ f. rw f))

  pub places_freed : places_from places m' 0 ≡ map (freed_at (id_at m p)) (places_from places m 0)
  places_freed = places_map (freed_at (id_at m p)) m m' places 0 (λ j a b. freed_one j b)
