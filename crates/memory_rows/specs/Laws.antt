-- Laws of words that move.
use Prim.Native.Nat.{ℕ, zero, suc, ◌+◌, ◌*◌, ◌-◌, ◌<◌, ◌≤◌, ◌%◌}
use native.Mathlib.Omega.{arith}
use Rattle.std.proofs.Common.{le_of_suc-le-suc, not-suc-le-zero, mod-eq_of_lt, sym, ap, ◌∙◌, length-set, get_or-set_same, get_or-set_other}
use Rattle.std.specs.Prelude.{◌≡◌, refl, Bool, true, false, ◌&&◌, ◌≢◌, List, eqb, leb, ltb, length, set}
use borrow.Author.Tests.{eqb-true, eqb-false, le-leb, ltb-true, ltb-false, lt-ltb, le-ltb}
use Rattle.rules_laws.specs.Laws.Tests.{by_test, both}
use Rattle.rules.specs.Limits.{max_rows}
use Rattle.memory.specs.Layout.{word, taken, start_at, row_word, place_words, places, rows_start, row_words}
use Rattle.memory.specs.Layout.{occupancy_word, first_row_word, dependencies_word, provisions_word}
use Rattle.memory_places.specs.Changes.{vacated_at}
use Rattle.memory_places.specs.Taken.{taken_below, vacated_length}
use Rattle.memory_places.specs.Rows.{rows_at}
use Rattle.memory_rows.specs.Moves.{moved, closed_gap, start_word, lowered, lowered_at, lower_from, later, last_from, end_at, last_behind, rows_end, freed_place}
use Rattle.memory_rows.specs.declared.Last.{Last}

-- words moved down
pub moved_length : (n : ℕ) (m : List ℕ) (j k : ℕ) → length (moved n m j k) ≡ length m
unfolding moved
moved_length zero m j k = refl
moved_length (suc n) m j k = moved_length n (set m j (word m (j + k))) (j + 1) k ∙ length-set m j (word m (j + k))

pub moved_below : (n : ℕ) (m : List ℕ) (j k i : ℕ) → i < j → word (moved n m j k) i ≡ word m i
unfolding moved
moved_below zero m j k i h = refl
moved_below (suc n) m j k i h =
    moved_below n (set m j (word m (j + k))) (j + 1) k i (omega arith) ∙ get_or-set_other m j i (word m (j + k)) 0 (omega arith)

pub moved_within : (n : ℕ) (m : List ℕ) (j k i : ℕ) → i < n → j + n ≤ length m → word (moved n m j k) (j + i) ≡ word m (j + i + k)
unfolding moved
moved_within zero m j k i h f = absurd (not-suc-le-zero h)
moved_within (suc n) m j k zero h f =
    let e : j + zero ≡ j = omega arith in
    rw e (moved_below n (set m j (word m (j + k))) (j + 1) k j (omega arith) ∙ get_or-set_same m j (word m (j + k)) 0 (omega arith))
moved_within (suc n) m j k (suc i) h f =
    let e : j + suc i ≡ j + 1 + i = omega arith in
    let g : length (set m j (word m (j + k))) ≡ length m = length-set m j (word m (j + k)) in
    rw e (moved_within n (set m j (word m (j + k))) (j + 1) k i (le_of_suc-le-suc h) (omega arith)
    ∙ get_or-set_other m j (j + 1 + i + k) (word m (j + k)) 0 (omega arith))

pub moved_next : (e : ℕ) (m : List ℕ) (j k : ℕ) → j < e → moved (e - j) m j k ≡ moved (e - (j + 1)) (set m j (word m (j + k))) (j + 1) k
unfolding moved
moved_next e m j k h = let s : e - j ≡ suc (e - (j + 1)) = omega arith in rw s

pub moved_end : (e : ℕ) (m : List ℕ) (j k : ℕ) → e ≤ j → moved (e - j) m j k ≡ m
unfolding moved
moved_end e m j k h = let s : e - j ≡ 0 = omega arith in rw s

pub gap_none : (m : List ℕ) (start count end : ℕ) → end ≤ start + count → closed_gap m start count end ≡ m
unfolding moved
gap_none m start count end h = let s : (end - (start + count)) * row_words ≡ 0 = omega arith in rw s

pub gap_start : (m : List ℕ) (start count end : ℕ) → start + count ≤ end
    → closed_gap m start count end ≡ moved ((end - count) * row_words + rows_start - (start * row_words + rows_start)) m (start * row_words + rows_start)
    (count * row_words)
gap_start m start count end h =
    let e : (end - (start + count)) * row_words ≡ (end - count) * row_words + rows_start - (start * row_words + rows_start) = omega arith in
    rw e

-- starts lowered
pub lower_next : (e : ℕ) (m : List ℕ) (x k i : ℕ) → i < e
    → lower_from (e - i) m x k i ≡ lower_from (e - (i + 1)) (set m (i * place_words + first_row_word) (lowered (word m (i * place_words + first_row_word)) x k)) x k
    (i + 1)
unfolding lower_from
lower_next e m x k i h = let s : e - i ≡ suc (e - (i + 1)) = omega arith in rw s

pub lower_end : (e : ℕ) (m : List ℕ) (x k i : ℕ) → e ≤ i → lower_from (e - i) m x k i ≡ m
unfolding lower_from
lower_end e m x k i h = let s : e - i ≡ 0 = omega arith in rw s

pub lower_length : (n : ℕ) (m : List ℕ) (x k i : ℕ) → length (lower_from n m x k i) ≡ length m
unfolding lower_from
lower_length zero m x k i = refl
lower_length (suc n) m x k i =
    lower_length n (set m (i * place_words + first_row_word) (lowered (word m (i * place_words + first_row_word)) x k)) x k (i + 1)
    ∙ length-set m (i * place_words + first_row_word) (lowered (word m (i * place_words + first_row_word)) x k)

-- a word that is no start stays
pub lower_other : (n : ℕ) (m : List ℕ) (x k i a : ℕ) → ((j : ℕ) → i ≤ j → j < i + n → a ≢ j * place_words + first_row_word)
    → word (lower_from n m x k i) a ≡ word m a
unfolding lower_from
lower_other zero m x k i a h = refl
lower_other (suc n) m x k i a h =
    lower_other n (set m (i * place_words + first_row_word) (lowered (word m (i * place_words + first_row_word)) x k)) x k (i + 1) a
    (λ j l t. h j (omega arith) (omega arith))
    ∙ get_or-set_other m (i * place_words + first_row_word) a (lowered (word m (i * place_words + first_row_word)) x k) 0 (h i (omega arith) (omega arith))

pub lower_start_lem : (n : ℕ) (m : List ℕ) (x k i j : ℕ) → i ≤ j → j < i + n → j * place_words + first_row_word < length m
    → word (lower_from n m x k i) (j * place_words + first_row_word) ≡ lowered (word m (j * place_words + first_row_word)) x k
unfolding lower_from
lower_start_lem zero m x k i j l t f = absurd (omega arith)
lower_start_lem (suc n) m x k i j l t f =
    cases (eqb i j) refl (lower_start_lem n (set m (i * place_words + first_row_word) (lowered (word m (i * place_words + first_row_word)) x k)) x k (i + 1) j)
  where
    one : List ℕ
    one = set m (i * place_words + first_row_word) (lowered (word m (i * place_words + first_row_word)) x k)

    cases : (b : Bool) → eqb i j ≡ b
        → (i + 1 ≤ j → j < i + 1 + n → j * place_words + first_row_word < length one
        → word (lower_from n one x k (i + 1)) (j * place_words + first_row_word) ≡ lowered (word one (j * place_words + first_row_word)) x k)
        → word (lower_from n one x k (i + 1)) (j * place_words + first_row_word) ≡ lowered (word m (j * place_words + first_row_word)) x k
    cases true e ih =
        let s : i ≡ j = eqb-true i j e in
        lower_other n one x k (i + 1) (j * place_words + first_row_word) (λ q a b. omega arith)
        ∙ rw (← s) (get_or-set_same m (i * place_words + first_row_word) (lowered (word m (i * place_words + first_row_word)) x k) 0 (omega arith))
    cases false e ih =
        let d : i ≢ j = eqb-false i j e in
        let g : length one ≡ length m = length-set m (i * place_words + first_row_word) (lowered (word m (i * place_words + first_row_word)) x k) in
        ih (omega arith) (omega arith) (omega arith)
        ∙ ap (λ y. lowered y x k) (get_or-set_other m (i * place_words + first_row_word) (j * place_words + first_row_word)
        (lowered (word m (i * place_words + first_row_word)) x k) 0 (omega arith))

-- a start says nothing of which places are taken
taken_stored : (m : List ℕ) (a v i : ℕ) → taken (set m (a * place_words + first_row_word) v) i ≡ taken m i
unfolding taken
taken_stored m a v i = rw (get_or-set_other m (a * place_words + first_row_word) occupancy_word v 0 (omega arith))

-- a start behind the gap is lowered; its place is told if it is taken and its rows stand later
module _ (m : List ℕ) (x k i : ℕ) (l : Last) (h : x ≤ start_word m i) where
  pub lowered_here : set m (i * place_words + first_row_word) (start_word m i - k) ≡ lowered_at m x k i
  lowered_here = rw (le-leb x (start_word m i) h)

  module _ (b : Bool) (t : b ≡ taken (set m (i * place_words + first_row_word) (start_word m i - k)) i) where
    taken_is : (v : Bool) → b ≡ v → taken m i ≡ v
    taken_is v e = sym (t ∙ taken_stored m i (start_word m i - k) i) ∙ e

    pub later_free : b ≡ false → l ≡ later m x i l
    later_free e = rw (le-leb x (start_word m i) h, taken_is false e)

    pub later_not : b ≡ true → start_word m i ≤ l.start → l ≡ later m x i l
    later_not e n = rw (le-leb x (start_word m i) h, taken_is true e, le-ltb l.start (start_word m i) n)

    pub later_here : b ≡ true → l.start < start_word m i → record { place = i; start = start_word m i } ≡ later m x i l
    later_here e y = rw (le-leb x (start_word m i) h, taken_is true e, lt-ltb l.start (start_word m i) y)

-- The last plugin told: a start that was passed may be stored.
last_stored : (n : ℕ) (m : List ℕ) (x i a v : ℕ) (l : Last) → a < i → last_from n (set m (a * place_words + first_row_word) v) x i l ≡ last_from n m x i l
unfolding last_from
last_stored zero m x i a v l h = refl
last_stored (suc n) m x i a v l h =
    let s = get_or-set_other m (a * place_words + first_row_word) (i * place_words + first_row_word) v 0 (omega arith) in
    rw (s, taken_stored m a v i) (last_stored n m x (i + 1) a v (later m x i l) (omega arith))

pub last_next : (e : ℕ) (m : List ℕ) (x k i : ℕ) (l : Last) → i < e
    → last_from (e - i) m x i l ≡ last_from (e - (i + 1)) (lowered_at m x k i) x (i + 1) (later m x i l)
unfolding last_from
last_next e m x k i l h =
    let s : e - i ≡ suc (e - (i + 1)) = omega arith in
    rw s (sym (last_stored (e - (i + 1)) m x (i + 1) i (lowered (start_word m i) x k) (later m x i l) (omega arith)))

pub last_end : (e : ℕ) (m : List ℕ) (x i : ℕ) (l : Last) → e ≤ i → last_from (e - i) m x i l ≡ l
unfolding last_from
last_end e m x i l h = let s : e - i ≡ 0 = omega arith in rw s

module _ (m : List ℕ) (x : ℕ) where
  later_all : (P : Last → Type 0) (i : ℕ) (l : Last) → P l
      → (taken m i ≡ true → l.start < start_word m i → P (record { place = i; start = start_word m i })) → P (later m x i l)
  later_all P i l old new = by_test (leb x (start_word m i) && taken m i && ltb l.start (start_word m i))
      (λ y. let t = both (leb x (start_word m i) && taken m i) _ y in rw y (new (both (leb x (start_word m i)) _ t.0).1 (ltb-true _ _ t.1)))
      (λ f. rw f old)

  -- what holds of the first one, and of every taken place with its start, holds of the last
  pub last_all : (P : Last → Type 0) → ((i : ℕ) → taken m i ≡ true → P (record { place = i; start = start_word m i })) → (n i : ℕ) (l : Last) → P l
      → P (last_from n m x i l)
  unfolding last_from
  last_all P new zero i l p = p
  last_all P new (suc n) i l p = last_all P new n (i + 1) (later m x i l) (later_all P i l p (λ t h. new i t))

  -- its start is at or above the first one's, and those of the taken places behind the gap
  last_above : (n i : ℕ) (l : Last) → l.start ≤ (last_from n m x i l).start
  unfolding last_from
  last_above zero i l = omega arith
  last_above (suc n) i l =
      let r = last_above n (i + 1) (later m x i l) in
      let h : l.start ≤ (later m x i l).start = later_all (λ r. l.start ≤ r.start) i l (omega arith) (λ t h. omega arith) in
      omega arith

  later_high : (i : ℕ) (l : Last) → taken m i ≡ true → x ≤ start_word m i → start_word m i ≤ (later m x i l).start
  later_high i l t h = by_test (ltb l.start (start_word m i))
      (λ y. rw (le-leb x (start_word m i) h, t, y) (omega arith))
      (λ f. rw (le-leb x (start_word m i) h, t, f) (omega (arith, ltb-false l.start (start_word m i) f)))

  pub last_high : (n i : ℕ) (l : Last) (j : ℕ) → i ≤ j → j < i + n → taken m j ≡ true → x ≤ start_word m j → start_word m j ≤ (last_from n m x i l).start
  unfolding last_from
  last_high zero i l j a b t h = absurd (omega arith)
  last_high (suc n) i l j a b t h =
      let r = last_high n (i + 1) (later m x i l) j in
      by_test (eqb i j)
      (λ y. let e = eqb-true i j y in rw (← e) (omega (arith, later_high i l (rw e t) (rw e h), last_above n (i + 1) (later m x i l))))
      (λ f. let e = eqb-false i j f in r (omega arith) (omega arith) t h)

-- The remover's steps: on any words, what is told of the last plugin is its place, which is taken, and its start.
module _ (m m₁ : List ℕ) (p s c : ℕ) (l : Last) (there : taken m p ≡ true) (e₁ : s ≡ start_at m (p % places)) (e₂ : c ≡ rows_at m (p % places))
    (e₃ : m₁ ≡ lower_from places m (s + c) c 0) (e₄ : l ≡ last_from places m (s + c) 0 (record { place = p; start = s })) where
  same_place : p % places ≡ p
  same_place = mod-eq_of_lt (taken_below m p there)

  s_is : s ≡ start_at m p
  s_is = e₁ ∙ ap (start_at m) same_place

  c_is : c ≡ rows_at m p
  c_is = e₂ ∙ ap (rows_at m) same_place

  last_is : l ≡ last_behind m p
  unfolding last_behind
  last_is = e₄ ∙ rw (s_is, c_is)

  told : (taken m l.place ≡ true) × (l.start % max_rows ≡ start_at m l.place)
  told = rw e₄ (last_all m (s + c) (λ l. (taken m l.place ≡ true) × (l.start % max_rows ≡ start_at m l.place)) (λ i t. (t, refl)) places 0
      (record { place = p; start = s }) (there, omega (arith, s_is)))

  rows_stay : rows_at m₁ (l.place % places) ≡ rows_at m l.place
  rows_stay =
      let q : l.place % places ≡ l.place = mod-eq_of_lt (taken_below m l.place told.0) in
      rw (q, e₃) (rw (
        lower_other places m (s + c) c 0 (l.place * place_words + dependencies_word) (λ j a b. omega arith),
        lower_other places m (s + c) c 0 (l.place * place_words + provisions_word) (λ j a b. omega arith),
      ))

  pub free_moved : (m₂ : List ℕ) (r : ℕ) → r ≡ rows_at m₁ (l.place % places) → m₂ ≡ closed_gap m₁ s c (l.start % max_rows + r)
      → m₂ ≡ closed_gap m₁ s c (end_at m l.place)
  free_moved m₂ r e₅ e₆ = e₆ ∙ rw (e₅, rows_stay, told.1)

  pub free_stays : (m₂ : List ℕ) → l.place ≡ p → m₂ ≡ m₁ → m₂ ≡ closed_gap m₁ s c (end_at m l.place)
  free_stays m₂ e₅ e₆ = e₆ ∙ sym (gap_none m₁ s c (end_at m l.place) (omega (arith, ap (end_at m) e₅, s_is, c_is)))

  pub free_steps : (m₂ m₃ : List ℕ) → m₂ ≡ closed_gap m₁ s c (end_at m l.place) → m₃ ≡ vacated_at m₂ p → m₃ ≡ freed_place m p
  unfolding freed_place
  free_steps m₂ m₃ e₅ e₆ = rw there (rw (e₆, e₅, e₃, last_is, s_is, c_is))

pub free_not : (m : List ℕ) (p : ℕ) → taken m p ≡ false → m ≡ freed_place m p
unfolding freed_place
free_not m p f = rw f

-- on any words, there are as many afterwards
pub freed_size : (m : List ℕ) (p : ℕ) → length (freed_place m p) ≡ length m
unfolding freed_place
freed_size m p =
    let s = start_at m p in
    let c = rows_at m p in
    let low = lower_from places m (s + c) c 0 in
    let end = rows_end m p in
    by_test (taken m p)
    (λ t. rw t (
    vacated_length (closed_gap low s c end) p ∙ moved_length ((end - (s + c)) * row_words) low (row_word s) (c * row_words)
    ∙ lower_length places m (s + c) c 0))
    (λ f. rw f)
