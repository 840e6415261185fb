-- No other word is a number: what reads as n is n's decimal digits. Assumes nothing.
use Rattle.std.specs.Prelude.{ℕ, ◌+◌, ◌/◌, ◌%◌, ◌≤◌, ◌<◌, refl, true, false, ◌||◌, List, [], ◌∷◌, ◌++◌, eqb, Some, None}
use Rattle.std.proofs.Math.Path.{◌≡◌}
use Rattle.std.proofs.Common.{sym, ap, ◌∙◌, true≢false, append_assoc, append-nil, arith}
use Rattle.std.proofs.Math.Dec.{ltb}
use borrow.Author.Tests.{ltb-false, eqb-false, le-ltb, ne_eqb}
use Rattle.rules_basics.specs.Basics.{last, any}
use Rattle.rules_basics.specs.Tests.{by_test, neither}
use Rattle.text_form.specs.Digits.{decimal_of}
use Rattle.text_form.specs.Words.{no_digit, with, value_from, number_of}
use Rattle.text_form.specs.Writing.{digits_one, digits_more}

-- A byte that was read behind a number is a digit, and the whole fits.
pub record Digit (n b : ℕ) : Type 0 where
  pub low : 48 ≤ b
  pub high : b ≤ 57
  pub fits : with n b ≤ last

module _ (v b n : ℕ) (s : List ℕ) where
  one_read : value_from v (b ∷ s) ≡ Some n → Digit v b × (value_from (with v b) s ≡ Some n)
  unfolding value_from
  one_read e =
      by_test (no_digit b || ltb last (with v b))
      (λ y. let f : None ≡ Some n = rw y at e in let z : ◌≡◌ {A = ℕ} 0 1 = cc in absurd (omega arith))
      (λ t.
      let x = neither (no_digit b) (ltb last (with v b)) t in
      let y = neither (ltb b 48) (ltb 57 b) x.0 in
      (record { low = ltb-false b 48 y.0; high = ltb-false 57 b y.1; fits = ltb-false last (with v b) x.1 }, rw t at e))

-- One more digit behind a number that is not 0.
one_more_lem : (v b : ℕ) → 0 < v → Digit v b → decimal_of (with v b) ≡ decimal_of v ++ b ∷ []
one_more_lem v b p d =
    let low : 48 ≤ b = d.low in
    let high : b ≤ 57 = d.high in
    let q : with v b / 10 ≡ v = omega arith in
    let r : 48 + with v b % 10 ≡ b = omega arith in
    digits_more (with v b) (omega arith) ∙ rw (q, r)

-- Digits behind a number that is not 0.
behind : (v n : ℕ) (s : List ℕ) → 0 < v → v ≤ last → value_from v s ≡ Some n → (decimal_of n ≡ decimal_of v ++ s) × (n ≤ last)
unfolding value_from
behind v n [] p l e =
    let i : v ≡ n = cc in
    (rw i (sym (append-nil (decimal_of n))), omega arith)
behind v n (b ∷ s) p l e =
    let r = one_read v b n s e in
    let more = behind (with v b) n s (omega arith) r.0.fits r.1 in
    (more.0 ∙ rw (one_more_lem v b p r.0) (append_assoc (decimal_of v) (b ∷ []) s), more.1)

-- The first digit.
first_read : (b n : ℕ) (s : List ℕ) → value_from 0 (b ∷ s) ≡ Some n → Digit 0 b × (decimal_of (with 0 b) ≡ b ∷ []) × (value_from (with 0 b) s ≡ Some n)
first_read b n s e =
    let r = one_read 0 b n s e in
    let d = r.0 in
    let low : 48 ≤ b = d.low in
    let high : b ≤ 57 = d.high in
    let i : 48 + with 0 b ≡ b = omega arith in
    (d, digits_one (with 0 b) (omega arith) ∙ ap (λ (x : ℕ). x ∷ []) i, r.1)

-- What is read as a number is that number's digits, and the number is at most 2^64 − 1.
pub number_exact : (w : List ℕ) (n : ℕ) → number_of w ≡ Some n → (decimal_of n ≡ w) × (n ≤ last)
unfolding number_of value_from
number_exact [] n e = let z : ◌≡◌ {A = ℕ} 0 1 = cc in absurd (omega arith)
number_exact (b ∷ []) n e =
    let r = first_read b n [] e in
    let i : with 0 b ≡ n = cc in
    let f = r.0.fits in
    (ap decimal_of (sym i) ∙ r.1, omega arith)
number_exact (b ∷ c ∷ s) n e =
    by_test (eqb b 48)
    (λ y. let f : None ≡ Some n = rw y at e in let z : ◌≡◌ {A = ℕ} 0 1 = cc in absurd (omega arith))
    (λ t.
    let r = first_read b n (c ∷ s) (rw t at e) in
    let low : 48 ≤ b = r.0.low in
    let more = behind (with 0 b) n (c ∷ s) (omega (arith, eqb-false b 48 t)) r.0.fits r.2 in
    (more.0 ∙ rw r.1, more.1))

-- A byte that is no digit stands in no number.
value_lacks : (stop : ℕ) → no_digit stop ≡ true → (w : List ℕ) (v n : ℕ) → value_from v w ≡ Some n → any (λ (b : ℕ). eqb b stop) w ≡ false
value_lacks stop h [] v n e = refl
value_lacks stop h (b ∷ w) v n e =
    let r = one_read v b n w e in
    let low : 48 ≤ b = r.0.low in
    let high : b ≤ 57 = r.0.high in
    let digit : no_digit b ≡ false = rw (le-ltb b 48 low, le-ltb 57 b high) in
    let other : eqb b stop ≡ false = ne_eqb b stop (λ i. true≢false (sym h ∙ ap no_digit (sym i) ∙ digit)) in
    rw other (value_lacks stop h w (with v b) n r.1)

pub number_lacks : (stop : ℕ) → no_digit stop ≡ true → (w : List ℕ) (n : ℕ) → number_of w ≡ Some n → any (λ (b : ℕ). eqb b stop) w ≡ false
unfolding number_of
number_lacks stop h [] n e = refl
number_lacks stop h (b ∷ []) n e = value_lacks stop h (b ∷ []) 0 n e
number_lacks stop h (b ∷ c ∷ s) n e =
    by_test (eqb b 48)
    (λ y. let f : None ≡ Some n = rw y at e in let z : ◌≡◌ {A = ℕ} 0 1 = cc in absurd (omega arith))
    (λ t. value_lacks stop h (b ∷ c ∷ s) 0 n (rw t at e))
