-- One turn of the loops over the places.
use Rattle.std.specs.Prelude.{Some}
use Prim.Native.Nat.{ℕ, suc, ◌+◌, ◌-◌, ◌*◌, ◌/◌, ◌%◌, ◌^◌, ◌<◌, ◌≤◌}
use native.Mathlib.Nat.{mod-eq_of_lt}
use native.Mathlib.Omega.{arith}
use mathlib.Core.Path.{◌≡◌, refl, sym, ap, ◌∙◌}
use mathlib.Core.Bool.{true, false, ◌&&◌, and-false}
use mathlib.Core.List.{List}
use lib.Dec.{eqb, ltb, leb, lit<}
use lib.Pow.{shr-shr}
use borrow.Author.Tests.{lt-ltb, le-ltb, lt-leb, le-leb, eq-eqb, ne_eqb, eqb-true, eqb-false}
use Rattle.rules.specs.Basics.{pick, last}
use Rattle.rules.specs.Queries.{lower}
use Rattle.rules.specs.Limits.{max_plugin_rows}
use Rattle.rules_laws.specs.Laws.Tests.{by_test}
use Rattle.memory.specs.Layout.{occupancy, taken, id_at, deps_at, provs_at, places}
use Rattle.memory_places.specs.Rows.{rows_at, rows_by, rows_from}
use Rattle.memory_places.specs.Lowest.{lowest_of, lower_at, lowest_none, lower_next}

-- Rows, four places at a time: what is counted, and what is left.
abbrev pub Counted : List ℕ → ℕ → ℕ → ℕ → Type 0
Counted m k w total =
    (k ≤ 8) × (total ≤ k * 256) × (w ≡ occupancy m / 2 ^ (k * 4)) × (total + rows_from (places - k * 4) m (k * 4) ≡ rows_from places m 0)

pub rows_begin : (m : List ℕ) (w : ℕ) → w ≡ occupancy m → Counted m 0 w 0
rows_begin m w e = (omega arith, omega arith, e ∙ omega arith, omega arith)

pub rows_yes : (w : ℕ) (m : List ℕ) (i d p : ℕ) → w % 2 ≡ 1 → d ≡ deps_at m i → p ≡ provs_at m i → (d + p + 1 ≤ max_plugin_rows) × (d + p + 1 ≡ rows_by w m i)
rows_yes w m i d p h e f = (omega arith, rw (eq-eqb _ _ h, e, f))

pub rows_no : (w : ℕ) (m : List ℕ) (i : ℕ) → (w % 2 ≡ 1 → ⊥) → (0 ≤ max_plugin_rows) × (0 ≡ rows_by w m i)
rows_no w m i h = (omega arith, rw (ne_eqb _ _ h))

rows_split : (n : ℕ) (m : List ℕ) (i : ℕ) → rows_from (suc (suc (suc (suc n)))) m i ≡ rows_from 4 m i + rows_from n m (i + 1 + 1 + 1 + 1)
unfolding rows_from
rows_split n m i = omega arith

module _ (m : List ℕ) (i w : ℕ) (h : i < 29) (e : w ≡ occupancy m / 2 ^ i) where
  -- the rows of the place whose bit is the k-th of the word
  one_of : (k j r : ℕ) → k < 4 → j ≡ i + k → r ≡ rows_by (w / 2 ^ k) m (j % places) → r ≡ pick (taken m j) (rows_at m j) 0
  unfolding taken
  one_of k j r l p f =
      let g : j % places ≡ j = mod-eq_of_lt (omega arith) in
      let t : ltb j places ≡ true = lt-ltb j places (omega arith) in
      let s : w / 2 ^ k ≡ occupancy m / 2 ^ j = ap (λ x. x / 2 ^ k) e ∙ shr-shr (occupancy m) i k ∙ ap (λ x. occupancy m / 2 ^ x) (sym p) in
      f ∙ rw (g, t, s)

  pub rows_four : (a b c d : ℕ) → a ≡ rows_by w m (i % places) → b ≡ rows_by (w / 2) m ((i + 1) % places) → c ≡ rows_by (w / 4) m ((i + 2) % places)
      → d ≡ rows_by (w / 8) m ((i + 3) % places)
      → a + b + c + d ≡ rows_from 4 m i
  unfolding rows_from
  rows_four a b c d p q r s =
      let o : w / 2 ^ 0 ≡ w = omega arith in
      let two : i + 2 ≡ i + 1 + 1 = omega arith in
      let three : i + 3 ≡ i + 1 + 1 + 1 = omega arith in
      let x = one_of 0 i a (lit< tt) (omega arith) (rw o p) in
      let y = one_of 1 (i + 1) b (lit< tt) refl q in
      let z = one_of 2 (i + 1 + 1) c (lit< tt) (omega arith) (rw two at r) in
      let u = one_of 3 (i + 1 + 1 + 1) d (lit< tt) (omega arith) (rw three at s) in
      rw (x, y, z, u) (omega arith)

module _ (m : List ℕ) (k w total : ℕ) (h : k < 8) (t : Counted m k w total) where
  pub rows_next : (r : ℕ) → r ≤ 256 → r ≡ rows_from 4 m (k * 4) → Counted m (k + 1) (w / 16) (total + r)
  rows_next r b f =
      let n : places - k * 4 ≡ suc (suc (suc (suc (places - (k + 1) * 4)))) = omega arith in
      let j : k * 4 + 1 + 1 + 1 + 1 ≡ (k + 1) * 4 = omega arith in
      let q : k * 4 + 4 ≡ (k + 1) * 4 = omega arith in
      let s : rows_from (places - k * 4) m (k * 4) ≡ rows_from 4 m (k * 4) + rows_from (places - (k + 1) * 4) m ((k + 1) * 4) =
      rw n (rows_split _ m (k * 4) ∙ rw j) in (
        omega arith,
        omega arith,
        ap (λ x. x / 16) t.2 ∙ shr-shr (occupancy m) (k * 4) 4 ∙ ap (λ x. occupancy m / 2 ^ x) q,
        omega arith,
      )

pub rows_end_lem : (m : List ℕ) (k w total : ℕ) → 8 ≤ k → Counted m k w total → total ≡ rows_from places m 0
unfolding rows_from
rows_end_lem m k w total h t = let s : places - k * 4 ≡ 0 = omega arith in let r : rows_from (places - k * 4) m (k * 4) ≡ 0 = rw s in omega arith

-- Ids: those passed are numbers of 64 bits, and those of the places from i on are left to go to the lowest so far.
abbrev pub Passed : ℕ → List ℕ → ℕ → ℕ → Type 0
Passed number m i x =
    (i ≤ places)
    × ((j : ℕ) → j < i → id_at m j < 2 ^ 64)
    × (lower last (lowest_of number places m 0) ≡ lower x (lowest_of number (places - i) m i))

pub id_begin : (number : ℕ) (m : List ℕ) → Passed number m 0 last
id_begin number m = (omega arith, λ j h. absurd (omega arith), refl)

pub id_next : (number : ℕ) (m : List ℕ) (i x r : ℕ) → i < places → Passed number m i x → id_at m i < 2 ^ 64 → r ≡ lower_at number m i x → Passed number m (i + 1) r
id_next number m i x r h t s e =
    let n : places - i ≡ suc (places - (i + 1)) = omega arith in (
      omega arith,
      λ j l. by_test (eqb j i) (λ y. rw (eqb-true j i y) s) (λ d. let f = eqb-false j i d in t.1 j (omega arith)),
      t.2 ∙ rw (n, e) (lower_next number (places - (i + 1)) m i x),
    )

pub id_end : (number : ℕ) (m : List ℕ) (i x : ℕ) → places ≤ i → Passed number m i x → lower last (lowest_of number places m 0) ≡ Some x
id_end number m i x h t = let s : places - i ≡ 0 = omega arith in t.2 ∙ rw s (ap (lower x) (lowest_none number m i))

-- The id of one place against the lowest so far.
module _ (number : ℕ) (m : List ℕ) (i other : ℕ) (h : i < places) (id : ℕ) (e : id ≡ id_at m (i % places)) (l : id < 2 ^ 64) where
  same_id : id_at m i ≡ id
  same_id = let s : i % places ≡ i = mod-eq_of_lt h in sym (rw s at e)

  id_fits : id_at m i < 2 ^ 64
  id_fits = rw same_id l

  pub lower_id : id < other → taken m i ≡ true → number ≤ id → (id_at m i < 2 ^ 64) × (id ≡ lower_at number m i other)
  unfolding lower_at
  lower_id u t a = (id_fits, rw (t, same_id, le-leb number id a, lt-ltb id other u))

  pub lower_under : taken m i ≡ true → id < number → (id_at m i < 2 ^ 64) × (other ≡ lower_at number m i other)
  unfolding lower_at
  lower_under t a = (id_fits, rw (t, same_id, lt-leb number id a))

  pub lower_free : taken m i ≡ false → (id_at m i < 2 ^ 64) × (other ≡ lower_at number m i other)
  unfolding lower_at
  lower_free f = (id_fits, rw f)

  pub lower_over : other ≤ id → (id_at m i < 2 ^ 64) × (other ≡ lower_at number m i other)
  unfolding lower_at
  lower_over u = (id_fits, rw (same_id, le-ltb id other u, and-false (taken m i && leb number id)))
