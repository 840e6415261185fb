-- What the lowest free place says of the places, and of how many plugins there are.
use Rattle.std.specs.Prelude.{ℕ, zero, suc, ◌+◌, ◌<◌, ◌≤◌, ◌≡◌, refl, Bool, true, false, List, leb, eqb, length, Some, None}
use Rattle.std.proofs.Common.{arith, ap}
use borrow.Author.Tests.{le-leb, eqb-true, eqb-false}
use Rattle.rules.specs.Holds.{held, count}
use Rattle.rules_laws.specs.Laws.Tests.{by_test}
use Rattle.memory.specs.Layout.{taken, places}
use Rattle.memory.specs.View.{place_at, places_from, view}
use Rattle.memory_places.specs.Changes.{free_from, free_at}

-- p is the lowest free one of the places from i on, below e
pub record Lowest (m : List ℕ) (i e p : ℕ) : Type 0 where
  pub from : i ≤ p
  pub below : p < e
  pub free : taken m p ≡ false
  pub others : (j : ℕ) → i ≤ j → j < p → taken m j ≡ true

pub free_lowest : (n : ℕ) (m : List ℕ) (i p : ℕ) → free_from n m i ≡ Some p → Lowest m i (i + n) p
unfolding free_from
free_lowest zero m i p e = let z : ◌≡◌ {A = ℕ} 0 1 = cc in absurd (omega arith)
free_lowest (suc n) m i p e = go (taken m i) refl (free_lowest n m (i + 1) p)
  where
    go : (b : Bool) → taken m i ≡ b → (free_from n m (i + 1) ≡ Some p → Lowest m (i + 1) (i + 1 + n) p) → Lowest m i (i + suc n) p
    go true t ih =
        let r : Lowest m (i + 1) (i + 1 + n) p = ih (rw t at e) in
        record {
          from = omega arith;
          below = omega arith;
          free = r.free;
          others = λ j a b. by_test (eqb i j) (λ y. rw (← eqb-true i j y) t) (λ d. let f = eqb-false i j d in r.others j (omega arith) b);
        }
    go false f ih =
        let s : i ≡ p = cc (rw f at e) in
        record { from = omega arith; below = omega arith; free = rw (← s) f; others = λ j a b. absurd (omega arith) }

none_free : (n : ℕ) (m : List ℕ) (i : ℕ) → free_from n m i ≡ None → (j : ℕ) → i ≤ j → j < i + n → taken m j ≡ true
unfolding free_from
none_free zero m i e j a b = absurd (omega arith)
none_free (suc n) m i e j a b = go (taken m i) refl (none_free n m (i + 1))
  where
    go : (b : Bool) → taken m i ≡ b → (free_from n m (i + 1) ≡ None → (j : ℕ) → i + 1 ≤ j → j < i + 1 + n → taken m j ≡ true) → taken m j ≡ true
    go true t ih = by_test (eqb i j) (λ y. rw (← eqb-true i j y) t) (λ d. let f = eqb-false i j d in ih (rw t at e) j (omega arith) (omega arith))
    go false f ih = let z : ◌≡◌ {A = ℕ} 0 1 = cc (rw f at e) in absurd (omega arith)

-- of all 32
pub record LowestFree (m : List ℕ) (p : ℕ) : Type 0 where
  pub below : p < places
  pub free : taken m p ≡ false
  pub others : (i : ℕ) → i < p → taken m i ≡ true

module _ (m : List ℕ) where
  pub free_at_lem : (p : ℕ) → free_at m ≡ Some p → LowestFree m p
  unfolding free_at
  free_at_lem p e =
      let l = free_lowest places m 0 p e in
      record { below = l.below; free = l.free; others = λ i h. l.others i (omega arith) h }

-- Where no place is free, all are held.
held_full : (n : ℕ) (m : List ℕ) (i : ℕ) → free_from n m i ≡ None → length (held (places_from n m i)) ≡ n
unfolding free_from places_from place_at
held_full zero m i e = refl
held_full (suc n) m i e =
    let r = held_full n m (i + 1) in
    by_test (taken m i)
    (λ t. rw t (ap suc (r (rw t at e))))
    (λ f. let z : ◌≡◌ {A = ℕ} 0 1 = cc (rw f at e) in absurd (omega arith))

module _ (m : List ℕ) where
  pub count_full : free_at m ≡ None → leb places (count (view m)) ≡ true
  unfolding count view free_at
  count_full e = le-leb places (count (view m)) (omega (arith, held_full places m 0 e))
