-- A word as a set of the places: bit j says whether place j is among them.
use Prim.Native.Nat.{ℕ, zero, suc, ◌+◌, ◌-◌, ◌*◌, ◌/◌, ◌%◌, ◌^◌, ◌<◌, ◌≤◌}
use Rattle.std.proofs.Common.{pow-suc, pow_mono}
use native.Mathlib.Omega.{arith}
use Rattle.std.specs.Prelude.{◌≡◌, refl, Bool, true, false, eqb}
use mir.Val.{bool_byte}
use Rattle.rules.specs.Basics.{yes_no}
use Rattle.memory.specs.Layout.{places}

abbrev pub is_among : ℕ → ℕ → Bool
is_among w j = eqb (w / 2 ^ j % 2) 1

-- those of n places from i on that pass; the lowest bit is place i's
unfoldable pub word_of : (ℕ → Bool) → ℕ → ℕ → ℕ
word_of f zero i = 0
word_of f (suc n) i = word_of f n (i + 1) * 2 + yes_no (f i)

yes_no_lem : (b : Bool) → yes_no b < 2
yes_no_lem true = omega arith
yes_no_lem false = omega arith

pub word_lt : (f : ℕ → Bool) (n i : ℕ) → word_of f n i < 2 ^ n
unfolding word_of
word_lt f zero i = omega arith
word_lt f (suc n) i = omega (arith, word_lt f n (i + 1), yes_no_lem (f i), pow-suc 2 n)

pub word_none : (f : ℕ → Bool) → ((j : ℕ) → f j ≡ false) → (n i : ℕ) → 0 ≡ word_of f n i
unfolding word_of
word_none f h zero i = refl
word_none f h (suc n) i = rw (h i, ← word_none f h n (i + 1))

-- A word is made from the last place down: the places from i on are in it.
abbrev pub Made : (ℕ → Bool) → ℕ → ℕ → Type 0
Made f w i = (i ≤ places) × (w ≡ word_of f (places - i) i)

module _ (f : ℕ → Bool) where
  pub made_begin : Made f 0 places
  unfolding word_of
  made_begin = (omega arith, refl)

  module _ (w i : ℕ) (t : Made f w i) where
    pub made_end : i ≤ 0 → w ≡ word_of f places 0
    made_end h = let s : i ≡ 0 = omega arith in rw s at t.1

    module _ (h : 0 < i) where
      pub made_small : w < 2 ^ 31
      made_small =
          let l : places - i ≤ 31 = omega arith in
          omega (arith, word_lt f (places - i) i, pow_mono l)

      pub made_fits : (b : Bool) → w * 2 + bool_byte b < 2 ^ 32
      made_fits b = omega (arith, made_small, yes_no_lem b)

      pub made_next : (b : Bool) → b ≡ f (i - 1) → Made f (w * 2 + bool_byte b) (i - 1)
      unfolding word_of
      made_next b e =
          let n : places - (i - 1) ≡ suc (places - i) = omega arith in
          let k : i - 1 + 1 ≡ i = omega arith in
          (omega arith, rw (n, k, ← e, t.1))
