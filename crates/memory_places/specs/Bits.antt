-- Bits of a word, by halving: bit 0 is `w % 2`, and bit `suc i` of w is bit i of `w / 2`.
use Rattle.std.specs.Prelude.{ℕ, zero, suc, ◌+◌, ◌-◌, ◌*◌, ◌/◌, ◌%◌, ◌^◌, ◌≤◌, ◌<◌, min, ◌≡◌, refl, ◌≢◌}
use Rattle.std.proofs.Common.{pow-suc, not-suc-le-zero, le_of_suc-le-suc, one-mul, mod-eq_of_lt, zero-add, one-add, arith, sym, ap, ap₂, ◌∙◌, shr-shr}
use Rattle.std.proofs.Math.Pow.{pow-lt}
use Rattle.std.specs.Int.Count.{count_trailing_zeros}
use Rattle.std.proofs.lemmas.Nat.{trailing_le, or_disjoint}
use Rattle.std.specs.Int.Bits.{bit_and, bit_or, and_step, and_zero_r}

abbrev pub bit : ℕ → ℕ → ℕ
bit w i = w / 2 ^ i % 2

bit_zero : (w : ℕ) → bit w 0 ≡ w % 2
bit_zero w = omega arith

pub bit_suc : (w i : ℕ) → bit w (suc i) ≡ bit (w / 2) i
bit_suc w i = rw (← one-add i, ← shr-shr w 1 i)

pub zeros_fit : (n : ℕ) → count_trailing_zeros 32 n < 2 ^ 64
zeros_fit n = omega (arith, trailing_le 32 n)

-- A bit that is 0 is set by a sum.
half_more : (w p : ℕ) → (w + 2 ^ suc p) / 2 ≡ w / 2 + 2 ^ p
half_more w p = omega (arith, pow-suc 2 p)

pub set_there : (p w : ℕ) → bit w p ≡ 0 → bit (w + 2 ^ p) p ≡ 1
set_there zero w e = omega (arith, bit_zero w, bit_zero (w + 1))
set_there (suc p) w e =
    bit_suc (w + 2 ^ suc p) p ∙ ap (λ x. bit x p) (half_more w p) ∙ set_there p (w / 2) (sym (bit_suc w p) ∙ e)

pub set_others : (p i w : ℕ) → i ≢ p → bit w p ≡ 0 → bit (w + 2 ^ p) i ≡ bit w i
set_others zero zero w n e = absurd (n refl)
set_others zero (suc i) w n e =
    bit_suc (w + 1) i ∙ ap (λ x. bit x i) (omega (arith, bit_zero w)) ∙ sym (bit_suc w i)
set_others (suc p) zero w n e = omega (arith, bit_zero w, bit_zero (w + 2 ^ suc p), pow-suc 2 p)
set_others (suc p) (suc i) w n e =
    bit_suc (w + 2 ^ suc p) i ∙ ap (λ x. bit x i) (half_more w p)
    ∙ set_others p i (w / 2) (λ q. n (ap suc q)) (sym (bit_suc w p) ∙ e) ∙ sym (bit_suc w i)

pub set_lt : (k p w : ℕ) → p < k → w < 2 ^ k → bit w p ≡ 0 → w + 2 ^ p < 2 ^ k
set_lt zero p w h l e = absurd (not-suc-le-zero h)
set_lt (suc k) zero w h l e = omega (arith, bit_zero w, pow-suc 2 k)
set_lt (suc k) (suc p) w h l e =
    omega (arith, pow-suc 2 k, pow-suc 2 p, set_lt k p (w / 2) (le_of_suc-le-suc h) (omega (arith, pow-suc 2 k)) (sym (bit_suc w p) ∙ e))

and_free : (p w : ℕ) → bit w p ≡ 0 → bit_and w (2 ^ p) ≡ 0
and_free zero w e =
    let s : w % 2 ≡ 0 = omega (arith, bit_zero w) in
    and_step w 1 ∙ ap₂ (λ x y. x * 2 + min y 1) (and_zero_r (w / 2)) s
and_free (suc p) w e =
    let s : 2 ^ suc p / 2 ≡ 2 ^ p = omega (arith, pow-suc 2 p) in
    let t : 2 ^ suc p % 2 ≡ 0 = omega (arith, pow-suc 2 p) in
    let u : min (w % 2) (2 ^ suc p % 2) ≡ 0 = omega arith in
    omega (arith, and_step w (2 ^ suc p), ap (λ x. bit_and (w / 2) x) s, and_free p (w / 2) (sym (bit_suc w p) ∙ e))

pub or_free : (p w : ℕ) → bit w p ≡ 0 → bit_or w (2 ^ p) ≡ w + 2 ^ p
or_free p w e = or_disjoint w (2 ^ p) (and_free p w e)

-- One bit alone.
pub bit_none : (j : ℕ) → bit 0 j ≡ 0
bit_none zero = refl
bit_none (suc j) = bit_suc 0 j ∙ bit_none j

pub one_there : (p : ℕ) → bit (2 ^ p) p ≡ 1
one_there p = ap (λ w. bit w p) (sym (zero-add (2 ^ p))) ∙ set_there p 0 (bit_none p)

pub one_other : (p j : ℕ) → j ≢ p → bit (2 ^ p) j ≡ 0
one_other p j n = ap (λ w. bit w j) (sym (zero-add (2 ^ p))) ∙ set_others p j 0 n (bit_none p) ∙ bit_none j

-- `1 << p` of a u32
pub one_shl : (p : ℕ) → p < 32 → (1 * 2 ^ p) % 2 ^ 32 ≡ 2 ^ p
one_shl p h = ap (λ x. x % 2 ^ 32) (one-mul (2 ^ p)) ∙ mod-eq_of_lt (pow-lt h)

-- A bit that is 1 is cleared by a difference.
pub set_le : (p w : ℕ) → bit w p ≡ 1 → 2 ^ p ≤ w
set_le zero w e = omega (arith, bit_zero w)
set_le (suc p) w e = omega (arith, pow-suc 2 p, set_le p (w / 2) (sym (bit_suc w p) ∙ e))

pub clear_there : (p w : ℕ) → bit w p ≡ 1 → bit (w - 2 ^ p) p ≡ 0
clear_there zero w e = omega (arith, bit_zero w, bit_zero (w - 1))
clear_there (suc p) w e =
    let s : (w - 2 ^ suc p) / 2 ≡ w / 2 - 2 ^ p = omega (arith, pow-suc 2 p) in
    bit_suc (w - 2 ^ suc p) p ∙ ap (λ x. bit x p) s ∙ clear_there p (w / 2) (sym (bit_suc w p) ∙ e)

pub clear_others : (p i w : ℕ) → i ≢ p → bit w p ≡ 1 → bit (w - 2 ^ p) i ≡ bit w i
clear_others p i w n e =
    let back : w - 2 ^ p + 2 ^ p ≡ w = omega (arith, set_le p w e) in
    sym (set_others p i (w - 2 ^ p) n (clear_there p w e)) ∙ ap (λ x. bit x i) back
