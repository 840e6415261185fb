-- What is written reads back: a number's digits are a word that is this number. Assumes nothing.
use Rattle.std.specs.Prelude.{ℕ, zero, suc, ◌+◌, ◌*◌, ◌/◌, ◌%◌, ◌≤◌, ◌<◌, ◌≡◌, refl, Bool, true, false, ◌||◌, List, [], ◌∷◌, ◌++◌, ltb, length, get_or, Option, Some, None}
use Rattle.std.proofs.Common.{ap, ◌∙◌, ⊎_elim, le_refl, arith, le-ltb}
use Rattle.std.proofs.Math.ListN.{get_or-append}
use Rattle.rules_basics.specs.Basics.{pick, last}
use Rattle.text_form.specs.Digits.{decimal_of}
use Rattle.text_form.specs.Words.{no_digit, with, value_from, number_of}
use Rattle.text_form.specs.Reading.{number_one, number_more}
use Rattle.text_form.specs.Writing.{below10, digits_one, digits_more, digits_length}

-- One more digit behind a number that was read.
abbrev onward : Option ℕ → ℕ → Option ℕ
onward None b = None
onward (Some v) b = pick (no_digit b || ltb last (with v b)) None (Some (with v b))

value_append : (n b : ℕ) (l : List ℕ) → value_from n (l ++ b ∷ []) ≡ onward (value_from n l) b
unfolding value_from
value_append n b [] = refl
value_append n b (c ∷ l) = go (no_digit c || ltb last (with n c)) (value_append (with n c) b l)
  where
    go : (t : Bool) → value_from (with n c) (l ++ b ∷ []) ≡ onward (value_from (with n c) l) b
        → pick t None (value_from (with n c) (l ++ b ∷ [])) ≡ onward (pick t None (value_from (with n c) l)) b
    go true e = refl
    go false e = e

-- A digit behind a number is read where the whole fits.
reads_on : (v d n : ℕ) → d < 10 → n ≡ v * 10 + d → n ≤ last → onward (Some v) (48 + d) ≡ Some n
reads_on v d n h e l =
    let w : with v (48 + d) ≡ n = omega arith in
    rw (w, le-ltb (48 + d) 48 (omega arith), le-ltb 57 (48 + d) (omega arith), le-ltb last n l)

one_digit_back : (n : ℕ) → n < 10 → n ≤ last → value_from 0 (decimal_of n) ≡ Some n
unfolding value_from
one_digit_back n s l = rw (digits_one n s) (reads_on 0 n n s (omega arith) l)

value_digits : (k n : ℕ) → n ≤ k → n ≤ last → value_from 0 (decimal_of n) ≡ Some n
value_digits zero n h l = one_digit_back n (omega arith) l
value_digits (suc k) n h l =
    ⊎_elim
    (λ (g : 10 ≤ n).
    let e = value_digits k (n / 10) (omega arith) (omega arith) in
    rw (digits_more n g, value_append 0 (48 + n % 10) (decimal_of (n / 10)), e) (reads_on (n / 10) (n % 10) n (omega arith) (omega arith) l))
    (λ (s : n < 10). one_digit_back n s l)
    (below10 n)

-- No number but 0 begins with a zero.
lead : (k n : ℕ) → n ≤ k → 0 < n → (48 < get_or (decimal_of n) 0 0) × (0 < length (decimal_of n))
lead zero n h p = absurd (omega arith)
lead (suc k) n h p =
    ⊎_elim
    (λ (g : 10 ≤ n).
    let r = lead k (n / 10) (omega arith) (omega arith) in
    rw (digits_more n g) (
      rw (get_or-append (decimal_of (n / 10)) ((48 + n % 10) ∷ []) 0 0 r.1) r.0,
      omega (arith, ap length (digits_more n g), digits_length n g),
    ))
    (λ (s : n < 10). rw (digits_one n s) (omega arith, omega arith))
    (below10 n)

pub reads_back : (n : ℕ) → n ≤ last → number_of (decimal_of n) ≡ Some n
reads_back n l =
    ⊎_elim
    (λ (g : 10 ≤ n).
    let r = lead n n (le_refl n) (omega arith) in
    let t = lead n (n / 10) (omega arith) (omega arith) in
    number_more (decimal_of n) (omega (arith, digits_length n g)) (λ e. omega arith) ∙ value_digits n n (le_refl n) l)
    (λ (s : n < 10). number_one (decimal_of n) (ap length (digits_one n s)) ∙ value_digits n n (le_refl n) l)
    (below10 n)
