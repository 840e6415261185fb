-- Row 4 of document 01's refusals, by the places of a lent realm list.
use Rattle.std.specs.Prelude.{ℕ, ◌+◌, ◌-◌, ◌*◌, ◌%◌, ◌≤◌, ◌<◌, ◌≡◌, refl, true, false, not, ◌&&◌, ◌||◌, List, [], ◌∷◌, length, get_or, drop}
use Rattle.std.proofs.Common.{arith, ap, ◌∙◌}
use Rattle.std.proofs.Math.Dec.{ltb}
use borrow.Author.Tests.{lt-ltb, le-ltb, ltb-false, not-false}
use Rattle.rules_types.specs.declared.Port.{Port}
use Rattle.rules.specs.Holds.{port}
use Rattle.rules.specs.Ports.{pairs, odd_length, resolve_in, rising, bad_realms}
use Rattle.rules.specs.Limits.{max_realm_rows}
use Rattle.rules_laws.specs.Laws.Tests.{neither}
use Rattle.ports.specs.Places.{pairs_at, length_pairs, length_odd, length_even, even_length}

-- the keys of two rows, by the place of the second
pub rising_behind : (l : List ℕ) (i : ℕ) → 2 ≤ i → i + 1 < length l
    → rising (pairs (drop (i - 2) l)) ≡ (ltb (get_or l (i - 2) 0) (get_or l i 0) && rising (pairs (drop (i + 2 - 2) l)))
rising_behind l i p h =
    let e : i - 2 + 2 ≡ i = omega arith in
    let f : i + 2 - 2 ≡ i = omega arith in
    rw (f, rw e at (pairs_at l (i - 2) (omega arith)), pairs_at l i h)

pub rising_end : (ps : List Port) → length ps ≤ 1 → rising ps ≡ true
rising_end [] h = refl
rising_end (p ∷ []) h = refl
rising_end (p ∷ q ∷ ps) h = absurd (omega arith)

-- row 4 by the length, then by the keys
module _ (l : List ℕ) where
  pub bad_odd : (length l % 2 ≡ 0 → ⊥) → bad_realms l ≡ true
  unfolding bad_realms
  bad_odd h = rw (length_odd l h)

  pub bad_long : length l % 2 ≡ 0 → max_realm_rows * 2 < length l → bad_realms l ≡ true
  unfolding bad_realms
  bad_long e h = rw (length_even l e, lt-ltb max_realm_rows (length (pairs l)) (omega (arith, length_pairs l)))

  pub bad_rising : length l % 2 ≡ 0 → length l ≤ max_realm_rows * 2 → bad_realms l ≡ not (rising (pairs l))
  unfolding bad_realms
  bad_rising e h = rw (length_even l e, le-ltb max_realm_rows (length (pairs l)) (omega (arith, length_pairs l)))

  pub good_realms : bad_realms l ≡ false → (length l % 2 ≡ 0) × (length l ≤ max_realm_rows * 2) × (rising (pairs l) ≡ true)
  unfolding bad_realms
  good_realms h =
      let a = neither (odd_length l || ltb max_realm_rows (length (pairs l))) (not (rising (pairs l))) h in
      let b = neither (odd_length l) (ltb max_realm_rows (length (pairs l))) a.0 in
      let e = even_length l b.0 in
      (e, omega (arith, ltb-false max_realm_rows (length (pairs l)) b.1, length_pairs l), not-false (rising (pairs l)) a.1)

-- resolved with a fallback that is this port
pub resolve_with : (rows : List Port) (q p : Port) (k other : ℕ) → q ≡ resolve_in p.realm rows p.key → p ≡ port k other → q ≡ resolve_in other rows k
resolve_with rows q p k other e f = e ∙ ap (λ (x : Port). resolve_in x.realm rows x.key) f
