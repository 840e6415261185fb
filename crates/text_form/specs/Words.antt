-- A word as a number: decimal, without leading zeros, at most 2^64 − 1.
use Rattle.std.specs.Prelude.{ℕ, ◌+◌, ◌-◌, ◌*◌, Bool, ◌||◌, List, [], ◌∷◌, eqb, ltb, Option, Some, None}
use Rattle.rules_basics.specs.Basics.{pick, last}

abbrev pub no_digit : ℕ → Bool
no_digit b = ltb b 48 || ltb 57 b

-- The number n with one more digit behind it.
abbrev pub with : ℕ → ℕ → ℕ
with n b = n * 10 + (b - 48)

-- The number n with these bytes as digits behind it.
unfoldable pub value_from : ℕ → List ℕ → Option ℕ
value_from n [] = Some n
value_from n (b ∷ s) = pick (no_digit b || ltb last (with n b)) None (value_from (with n b) s)

-- No word is empty, and no number of more digits than one begins with a zero.
unfoldable pub number_of : List ℕ → Option ℕ
number_of [] = None
number_of (b ∷ []) = value_from 0 (b ∷ [])
number_of (b ∷ c ∷ s) = pick (eqb b 48) None (value_from 0 (b ∷ c ∷ s))
