-- A word with a bit for each number's remainder by 64: a bit that is there stays, and a number's own comes.
use Rattle.std.specs.Prelude.{ℕ, suc, ◌+◌, ◌-◌, ◌*◌, ◌/◌, ◌%◌, ◌^◌, ◌<◌, max, ◌≡◌, Bool, true, eqb}
use Rattle.std.proofs.Common.{arith, one-mul, mod-eq_of_lt, pow-suc, sym, ap, ◌∙◌, pow_pos, eqb-true, eq-eqb}
use Rattle.std.proofs.Math.Nat.{div_self}
use Rattle.std.specs.Int.Bits.{bit_or, or_step}
use Rattle.std.proofs.lemmas.Nat.{or_shr}
use Rattle.std.proofs.Math.Pow.{pow-lt, high, ones_lt, ones_split}

abbrev pub with_bit : ℕ → ℕ → ℕ
with_bit w n = bit_or w ((1 * 2 ^ (n % 64)) % 2 ^ 64)

abbrev pub has_bit : ℕ → ℕ → Bool
has_bit w n = eqb (w / 2 ^ (n % 64) % 2) 1

abbrev pub bit : ℕ → ℕ → ℕ
bit w j = w / 2 ^ j % 2

pub bit_or_lem : (w x j : ℕ) → bit (bit_or w x) j ≡ max (bit w j) (bit x j)
bit_or_lem w x j =
    let u : bit_or w x / 2 ^ j ≡ bit_or (w / 2 ^ j) (x / 2 ^ j) = or_shr w x j in
    let s = or_step (w / 2 ^ j) (x / 2 ^ j) in
    rw u (omega (arith, s))

own_bit : (n : ℕ) → bit ((1 * 2 ^ (n % 64)) % 2 ^ 64) (n % 64) ≡ 1
own_bit n =
    let h : n % 64 < 64 = omega arith in
    let e : (1 * 2 ^ (n % 64)) % 2 ^ 64 ≡ 2 ^ (n % 64) = ap (λ x. x % 2 ^ 64) (one-mul (2 ^ (n % 64))) ∙ mod-eq_of_lt (pow-lt h) in
    rw e (one_there (n % 64))
  where
    one_there : (j : ℕ) → bit (2 ^ j) j ≡ 1
    one_there j = ap (λ x. x % 2) (div_self (pow_pos j))

pub bit_stays : (w x n : ℕ) → has_bit w n ≡ true → has_bit (with_bit w x) n ≡ true
bit_stays w x n e =
    let h = eqb-true (bit w (n % 64)) 1 e in
    eq-eqb _ 1 (bit_or_lem w ((1 * 2 ^ (x % 64)) % 2 ^ 64) (n % 64) ∙ omega arith)

pub bit_comes : (w n : ℕ) → has_bit (with_bit w n) n ≡ true
bit_comes w n = eq-eqb _ 1 (bit_or_lem w ((1 * 2 ^ (n % 64)) % 2 ^ 64) (n % 64) ∙ omega (arith, own_bit n))

-- the greatest word has every bit
pub all_bits : (n : ℕ) → has_bit (2 ^ 64 - 1) n ≡ true
all_bits n =
    let e : suc (63 - n % 64) + n % 64 ≡ 64 = omega arith in
    eq-eqb _ 1 (ap (λ k. bit (2 ^ k - 1) (n % 64)) (sym e) ∙ ones_bit (63 - n % 64) (n % 64))
  where
    ones_bit : (k j : ℕ) → bit (2 ^ (suc k + j) - 1) j ≡ 1
    ones_bit k j =
        ap (λ x. x / 2 ^ j % 2) (ones_split (suc k) j) ∙ ap (λ x. x % 2) (high (2 ^ suc k - 1) j (ones_lt j)) ∙ omega (arith, pow-suc 2 k, pow_pos k)
