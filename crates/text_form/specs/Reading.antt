-- A word's digits one by one, and a word by its length. Assumes nothing.
use Rattle.std.specs.Prelude.{ℕ, ◌+◌, ◌≤◌, ◌<◌, ◌≡◌, refl, ◌||◌, List, [], ◌∷◌, eqb, ltb, length, get_or, drop, Some, None}
use Rattle.std.proofs.Common.{◌∙◌, add-one, arith, drop_of_length-le, lt-ltb, le-ltb, eq-eqb, ne_eqb}
use Rattle.std.proofs.Math.Bool.{or-true}
use Rattle.std.proofs.Math.Seq.{drop-cons}
use Rattle.rules_basics.specs.Basics.{pick, last}
use Rattle.text_form.specs.Words.{no_digit, with, value_from, number_of}

module _ (s : List ℕ) (i n : ℕ) where
  pub value_end : length s ≤ i → value_from n (drop i s) ≡ Some n
  unfolding value_from
  value_end h = rw (drop_of_length-le s h)

  step : i < length s → value_from n (drop i s)
      ≡ pick (no_digit (get_or s i 0) || ltb last (with n (get_or s i 0))) None (value_from (with n (get_or s i 0)) (drop (i + 1) s))
  unfolding value_from
  step h = rw (add-one i, drop-cons s i 0 h)

  pub value_low : i < length s → get_or s i 0 < 48 → value_from n (drop i s) ≡ None
  value_low h l = step h ∙ rw (lt-ltb (get_or s i 0) 48 l)

  pub value_high : i < length s → 57 < get_or s i 0 → value_from n (drop i s) ≡ None
  value_high h l = step h ∙ rw (lt-ltb 57 (get_or s i 0) l, or-true)

  pub value_over : i < length s → last < with n (get_or s i 0) → value_from n (drop i s) ≡ None
  value_over h l = step h ∙ rw (lt-ltb last (with n (get_or s i 0)) l, or-true)

  pub value_next : i < length s → 48 ≤ get_or s i 0 → get_or s i 0 ≤ 57 → with n (get_or s i 0) ≤ last
      → value_from n (drop i s) ≡ value_from (with n (get_or s i 0)) (drop (i + 1) s)
  value_next h l k f = step h ∙ rw (le-ltb (get_or s i 0) 48 l, le-ltb 57 (get_or s i 0) k, le-ltb last (with n (get_or s i 0)) f)

pub number_empty : (s : List ℕ) → length s ≡ 0 → number_of s ≡ None
unfolding number_of
number_empty [] e = refl
number_empty (b ∷ s) e = absurd (omega arith)

pub number_one : (s : List ℕ) → length s ≡ 1 → number_of s ≡ value_from 0 s
unfolding number_of
number_one [] e = absurd (omega arith)
number_one (b ∷ []) e = refl
number_one (b ∷ c ∷ s) e = absurd (omega arith)

more : (s : List ℕ) → 1 < length s → number_of s ≡ pick (eqb (get_or s 0 0) 48) None (value_from 0 s)
unfolding number_of
more [] l = absurd (omega arith)
more (b ∷ []) l = absurd (omega arith)
more (b ∷ c ∷ s) l = refl

pub number_zero : (s : List ℕ) → 1 < length s → get_or s 0 0 ≡ 48 → number_of s ≡ None
number_zero s l e = more s l ∙ rw (eq-eqb (get_or s 0 0) 48 e)

pub number_more : (s : List ℕ) → 1 < length s → (get_or s 0 0 ≡ 48 → ⊥) → number_of s ≡ value_from 0 s
number_more s l e = more s l ∙ rw (ne_eqb (get_or s 0 0) 48 e)
