-- The digits of a number, one more behind those of a tenth, and how many. Assumes nothing.
use Rattle.std.specs.Prelude.{ℕ, zero, suc, ◌+◌, ◌-◌, ◌/◌, ◌%◌, ◌^◌, ◌≤◌, ◌<◌, ◌≡◌, refl, List, [], ◌∷◌, ◌++◌, ◌⊎◌, length, take, drop, set}
use Rattle.std.proofs.Common.{sym, ap, ◌∙◌, append_assoc, inl, inr, ⊎_elim, pow-suc, eq-zero-or-pos, add-one, arith, length-append, length-set, drop_at, take_at, length-take-le, lt-ltb, le-ltb}
use Rattle.std.proofs.Math.Nat.{one-le-pow}
use Rattle.std.proofs.lemmas.List.{set_split}
use Rattle.text_form.specs.Digits.{digits_in, decimal_of, over, shown, Written}

pub below10 : (n : ℕ) → (10 ≤ n) ⊎ (n < 10)
below10 n = ⊎_elim (λ (z : 10 - n ≡ 0). inl (omega arith)) (λ (p : 0 < 10 - n). inr (omega arith)) (eq-zero-or-pos (10 - n))

-- So many digits are enough as n is.
enough : (j k n : ℕ) → n ≤ j → n ≤ k → digits_in j n ≡ digits_in k n
unfolding digits_in
enough zero zero n hj hk = refl
enough zero (suc k) n hj hk =
    let z : n ≡ 0 = omega arith in
    rw z
enough (suc j) zero n hj hk =
    let z : n ≡ 0 = omega arith in
    rw z
enough (suc j) (suc k) n hj hk = ⊎_elim (λ (g : 10 ≤ n). rw (le-ltb n 10 g, enough j k (n / 10) (omega arith) (omega arith)))
    (λ (l : n < 10). rw (lt-ltb n 10 l)) (below10 n)

pub digits_one : (n : ℕ) → n < 10 → decimal_of n ≡ (48 + n) ∷ []
unfolding decimal_of digits_in
digits_one zero h = refl
digits_one (suc n) h = rw (lt-ltb (suc n) 10 h)

pub digits_more : (n : ℕ) → 10 ≤ n → decimal_of n ≡ decimal_of (n / 10) ++ (48 + n % 10) ∷ []
unfolding decimal_of digits_in
digits_more zero h = absurd (omega arith)
digits_more (suc n) h = rw (le-ltb (suc n) 10 h, enough n (suc n / 10) (suc n / 10) (omega arith) (omega arith))

pub digits_length : (n : ℕ) → 10 ≤ n → length (decimal_of n) ≡ length (decimal_of (n / 10)) + 1
digits_length n h = ap length (digits_more n h) ∙ length-append (decimal_of (n / 10)) ((48 + n % 10) ∷ [])

pub digits_two : (n : ℕ) → 100 ≤ n → length (decimal_of n) ≡ length (decimal_of (n / 100)) + 2
digits_two n h =
    let e : n / 10 / 10 ≡ n / 100 = omega arith in
    let a = digits_length n (omega arith) in
    let b = digits_length (n / 10) (omega arith) in
    rw (← e) (omega arith)

pub digits_four : (n : ℕ) → 10000 ≤ n → length (decimal_of n) ≡ length (decimal_of (n / 10000)) + 4
digits_four n h =
    let e : n / 100 / 100 ≡ n / 10000 = omega arith in
    let a = digits_two n (omega arith) in
    let b = digits_two (n / 100) (omega arith) in
    rw (← e) (omega arith)

-- A number below 10 ^ (k + 1) has at most k + 1 digits.
pub digits_most : (k n : ℕ) → n < 10 ^ suc k → length (decimal_of n) ≤ suc k
digits_most zero n h = rw (digits_one n (omega (arith, h))) (omega arith)
digits_most (suc k) n h =
    let rest : length (decimal_of (n / 10)) ≤ suc k = digits_most k (n / 10) (omega (arith, pow-suc 10 (suc k))) in
    ⊎_elim (λ (g : 10 ≤ n). omega (arith, digits_length n g)) (λ (l : n < 10). omega (arith, ap length (digits_one n l))) (below10 n)

-- A number has a digit, and from 10 ^ k on at least k + 1.
pub digits_some : (n : ℕ) → 0 < length (decimal_of n)
digits_some n = ⊎_elim (λ (g : 10 ≤ n). omega (arith, digits_length n g)) (λ (l : n < 10). omega (arith, ap length (digits_one n l))) (below10 n)

pub digits_least : (k n : ℕ) → 10 ^ k ≤ n → suc k ≤ length (decimal_of n)
digits_least zero n h = digits_some n
digits_least (suc k) n h =
    let e = pow-suc 10 k in
    let p = one-le-pow k 10 (omega arith) in
    let g : 10 ≤ n = omega arith in
    let rest : suc k ≤ length (decimal_of (n / 10)) = digits_least k (n / 10) (omega arith) in
    omega (arith, digits_length n g)

-- So many digits, from both sides.
pub digits_exactly : (k n : ℕ) → k ≤ length (decimal_of n) → 0 < k → n < 10 ^ k → k ≡ length (decimal_of n)
digits_exactly zero n l p h = absurd (omega arith)
digits_exactly (suc k) n l p h = omega (arith, digits_most k n h)

-- No number has more than 20 digits.
pub digits_room : (n : ℕ) → n < 2 ^ 64 → length (decimal_of n) ≤ 20
digits_room n h = digits_most 19 n (omega arith)

stored : (l : List ℕ) (i x : ℕ) → i < length l → drop i (set l i x) ≡ x ∷ drop (suc i) l
stored l i x h = ap (λ (s : List ℕ). drop i s) (set_split l i x h) ∙ drop_at (take i l) (x ∷ drop (suc i) l) i (length-take-le i l (omega arith))

-- The last digit is stored, and those before it are still to come.
over_last : (d l : List ℕ) (x : ℕ) → length d < length l → over (d ++ x ∷ []) l ≡ over d (set l (length d) x)
over_last d l x h =
    append_assoc d (x ∷ []) (drop (length (d ++ x ∷ [])) l)
    ∙ ap (λ (k : ℕ). d ++ x ∷ drop k l) (length-append d (x ∷ []) ∙ add-one (length d))
    ∙ ap (λ (r : List ℕ). d ++ r) (sym (stored l (length d) x h))

module _ (n : ℕ) (l : List ℕ) where
  pub digit_stored : (i : ℕ) → 10 ≤ n → i + 1 ≡ length (decimal_of n) → i < length l → over (decimal_of n) l ≡ over (decimal_of (n / 10)) (set l i (48 + n % 10))
  digit_stored i g e h =
      let j : length (decimal_of (n / 10)) ≡ i = omega (arith, digits_length n g) in
      let k : length (decimal_of (n / 10)) < length l = omega arith in
      ap (λ (d : List ℕ). over d l) (digits_more n g) ∙ over_last (decimal_of (n / 10)) l (48 + n % 10) k
      ∙ ap (λ (p : ℕ). over (decimal_of (n / 10)) (set l p (48 + n % 10))) j

  pub first_stored : n < 10 → 0 < length l → over (decimal_of n) l ≡ set l 0 (48 + n)
  first_stored h p = rw (digits_one n h) (sym (set_split l 0 (48 + n) p))

  -- What the count says of the scratch, from the two equations.
  pub written : (r : ℕ) (after : List ℕ) → r ≡ length (shown n l) → after ≡ over (shown n l) l → Written n r l after
  written r after c b =
      let h : r ≤ length after = omega (arith, ap length b, length-append (shown n l) (drop (length (shown n l)) l)) in
      record { count = c; bytes = b; fits = h; part = sym (length-take-le r after h) }

  pub too_short : length l < 20 → Written n 0 l l
  too_short h = written 0 l (rw (lt-ltb (length l) 20 h)) (rw (lt-ltb (length l) 20 h))

  pub long_enough : (r : ℕ) (after : List ℕ) → 20 ≤ length l → r ≡ length (decimal_of n) → after ≡ over (decimal_of n) l → Written n r l after
  long_enough r after h c b = written r after (rw (le-ltb (length l) 20 h) c) (rw (le-ltb (length l) 20 h) b)

  -- The part that is handed back.
  pub written_part : (r : ℕ) (after : List ℕ) → Written n r l after → take r after ≡ shown n l
  written_part r after w = ap (λ (s : List ℕ). take r s) w.bytes ∙ take_at (shown n l) (drop (length (shown n l)) l) r (sym w.count)

-- The last two digits, from what is left of a division by 100.
pub two_stored : (n : ℕ) (l : List ℕ) (i : ℕ) → 100 ≤ n → i + 1 ≡ length (decimal_of n) → i < length l
    → over (decimal_of n) l ≡ over (decimal_of (n / 100)) (set (set l i (48 + n % 100 % 10)) (i - 1) (48 + n % 100 / 10))
two_stored n l i g e h =
    let d : n / 10 / 10 ≡ n / 100 = omega arith in
    let u : n % 10 ≡ n % 100 % 10 = omega arith in
    let v : n / 10 % 10 ≡ n % 100 / 10 = omega arith in
    let k = digits_length n (omega arith) in
    let some = digits_some (n / 10) in
    let last = digit_stored n l i (omega arith) e h in
    let former = digit_stored (n / 10) (set l i (48 + n % 10)) (i - 1) (omega arith) (omega arith) (simp length-set (omega arith)) in
    rw (← d, ← u, ← v) (last ∙ former)

pub pair_stored : (n : ℕ) (l : List ℕ) → 10 ≤ n → n < 100 → 1 < length l → over (decimal_of n) l ≡ set (set l 1 (48 + n % 10)) 0 (48 + n / 10)
pair_stored n l g b h =
    let one = digits_length n g in
    let first = ap length (digits_one (n / 10) (omega arith)) in
    digit_stored n l 1 g (omega arith) h ∙ first_stored (n / 10) (set l 1 (48 + n % 10)) (omega arith) (simp length-set (omega arith))
