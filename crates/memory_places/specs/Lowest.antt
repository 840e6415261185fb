-- The lowest id from a number on, place by place.
use Rattle.std.specs.Prelude.{ℕ, suc, ◌+◌, ◌^◌, ◌<◌, ◌≤◌, min, ◌≡◌, ◌&&◌, List, ltb, leb, Option, Some, None}
use Rattle.std.proofs.Common.{arith, sym, ap, ◌∙◌, true≢false}
use Rattle.std.proofs.Math.Path.{refl}
use Rattle.std.proofs.Math.Bool.{true}
use borrow.Author.Tests.{ltb-true, ltb-false, eqb-true}
use Rattle.rules.specs.Basics.{pick, is_some, one, last}
use Rattle.rules.specs.Holds.{held, lookup}
use Rattle.rules.specs.Outcomes.{answers, answer_of}
use Rattle.rules.specs.Queries.{lower, lowest_from, id_from}
use Rattle.rules_laws.specs.Laws.Tests.{by_test}
use Rattle.rules_laws.specs.Laws.Lowest.{Registered, id_lowest, none_below}
use Rattle.memory.specs.Layout.{taken, id_at, places}
use Rattle.memory.specs.View.{plugin_at, place_at, places_from, view}
use Rattle.memory.specs.Writes.{find_at}
use Rattle.memory.specs.Lookups.{placed, lookup_view, find_found}
use Rattle.memory.specs.Known.{at_lookup, none_lookup}
use Rattle.rules.specs.Answers.{option_answer}

-- the id of a taken place, if it is at or above the number and lower than another
unfoldable pub lower_at : ℕ → List ℕ → ℕ → ℕ → ℕ
lower_at number m i other = pick (taken m i && leb number (id_at m i) && ltb (id_at m i) other) (id_at m i) other

-- the last id of all, if it is registered
unfoldable pub last_of : List ℕ → Option ℕ
last_of m = pick (is_some (lookup (view m) last)) (Some last) None

-- of n places from i on
unfoldable pub lowest_of : ℕ → ℕ → List ℕ → ℕ → Option ℕ
lowest_of number n m i = lowest_from number (held (places_from n m i))

pub lowest_none : (number : ℕ) (m : List ℕ) (i : ℕ) → lowest_of number 0 m i ≡ None
unfolding lowest_of places_from
lowest_none number m i = refl

-- To take the lower of two ids first comes to the same.
is_min : (x y : ℕ) → pick (ltb x y) x y ≡ min x y
is_min x y = by_test (ltb x y) (λ t. let h = ltb-true x y t in rw t (omega arith)) (λ f. let h = ltb-false x y f in rw f (omega arith))

lower_both : (x y : ℕ) (o : Option ℕ) → lower x (lower y o) ≡ lower (pick (ltb y x) y x) o
lower_both x y None = let e : min x y ≡ min y x = omega arith in ap Some (is_min x y ∙ e ∙ sym (is_min y x))
lower_both x y (Some z) =
    let e : min x (min y z) ≡ min (min y x) z = omega arith in
    rw (is_min y z, is_min x (min y z), is_min y x, is_min (min y x) z, e)

-- One place on, its id goes to the lowest so far.
pub lower_next : (number n : ℕ) (m : List ℕ) (i x : ℕ)
    → lower x (lowest_of number (suc n) m i) ≡ lower (lower_at number m i x) (lowest_of number n m (i + 1))
unfolding lowest_of lower_at places_from place_at plugin_at
lower_next number n m i x =
    by_test (taken m i)
    (λ t. by_test (leb number (id_at m i)) (λ y. rw t (rw y (lower_both x (id_at m i) (lowest_of number n m (i + 1))))) (λ f. rw t (rw f)))
    (λ f. rw f)

-- All places passed: the lowest so far is the lowest if it is not the last id of all.
pub lowest_below : (number : ℕ) (m : List ℕ) (x : ℕ) → lower last (lowest_of number places m 0) ≡ Some x → (x ≡ last → ⊥) → Some x ≡ lowest_of number places m 0
lowest_below number m x e n = go (lowest_of number places m 0) e
  where
    go : (o : Option ℕ) → lower last o ≡ Some x → Some x ≡ o
    go None d = let j : last ≡ x = cc in absurd (n (sym j))
    go (Some y) d = by_test (ltb last y)
        (λ t. let j : last ≡ x = cc (rw t at d) in absurd (n (sym j)))
        (λ f. sym (rw f at d))

-- The last id of all is registered where it has a place.
module _ (m : List ℕ) where
  pub last_found : (k : ℕ) → find_at m last ≡ Some k → Some last ≡ last_of m
  unfolding last_of
  last_found k e = rw (at_lookup m last k e)

  pub last_missed : find_at m last ≡ None → None ≡ last_of m
  unfolding last_of
  last_missed e = rw (none_lookup m last e)

-- What is asked of the registry is asked of its places.
id_from_lem : (number : ℕ) (m : List ℕ) (o : Option ℕ) → o ≡ lowest_of number places m 0 → answers (one o) ≡ id_from (view m) number
unfolding lowest_of id_from view
id_from_lem number m o e = ap (λ l. answers (one l)) e

pub lowest_view : (number : ℕ) (m : List ℕ) (r : Option ℕ) → r ≡ lowest_of number places m 0 → option_answer r ≡ answer_of (id_from (view m) number)
lowest_view number m r e = ap answer_of (id_from_lem number m r e)

-- Ids are numbers of 64 bits, so that the lowest so far is the last of all only if the lowest is, or if there is none.
module _ (m : List ℕ) (small : (j : ℕ) → j < places → id_at m j < 2 ^ 64) where
  id_small : (x : ℕ) → Registered (view m) x → x ≤ last
  unfolding plugin_at
  id_small x r = go (find_at m x) refl (rw (lookup_view m x) at r)
    where
      go : (p : Option ℕ) → find_at m x ≡ p → is_some (placed m p) ≡ true → x ≤ last
      go (Some k) e h = let f = find_found m x k e in let j : id_at m k ≡ x = eqb-true _ _ f.passes in omega (arith, small k f.below)
      go None e h = absurd (true≢false (sym h))

  pub lowest_last : (number : ℕ) → number ≤ last → lower last (lowest_of number places m 0) ≡ Some last → last_of m ≡ lowest_of number places m 0
  unfolding last_of
  lowest_last number h e = go (lowest_of number places m 0) refl e
    where
      go : (o : Option ℕ) → o ≡ lowest_of number places m 0 → lower last o ≡ Some last → pick (is_some (lookup (view m) last)) (Some last) None ≡ o
      go None d f = by_test (is_some (lookup (view m) last))
          (λ t. let l = none_below (view m) number (sym (id_from_lem number m None d)) last t in absurd (omega arith))
          (λ n. rw n)
      go (Some y) d f =
          let w = id_lowest (view m) number y (sym (id_from_lem number m (Some y) d)) in
          let l = id_small y w.one_of in
          let g : y ≡ last = by_test (ltb last y) (λ t. let k = ltb-true last y t in omega arith) (λ n. cc (rw n at f)) in
          let there : is_some (lookup (view m) last) ≡ true = rw g at w.one_of in
          rw (g, there)
