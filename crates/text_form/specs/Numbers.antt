-- Numbers: decimal digits and a byte that is no digit behind them.
use Rattle.std.specs.Prelude.{ℕ, ◌≤◌, List, [], ◌∷◌, ◌++◌, eqb, length, Option, Some, None}
use Rattle.std.proofs.Common.{arith}
use Rattle.rules_basics.specs.Basics.{pick, last}
use Rattle.text_form.specs.Digits.{decimal_of}
use Rattle.text_form.specs.Words.{number_of}
use Rattle.text_form.specs.Writing.{digits_most}
use Rattle.text_form.specs.Forms.{Read, found, torn, and_then, Form}

-- The bytes before the first of this kind.
unfoldable pub up_to : ℕ → List ℕ → Read (List ℕ)
up_to stop [] = torn
up_to stop (b ∷ t) = pick (eqb b stop) (found [] t) (and_then (up_to stop t) (λ w r. found (b ∷ w) r))

abbrev pub or_torn : Option ℕ → List ℕ → Read ℕ
or_torn None r = torn
or_torn (Some n) r = found n r

-- The digits of a number, up to that byte.
unfoldable pub read_number : ℕ → List ℕ → Read ℕ
read_number stop t = and_then (up_to stop t) (λ w r. or_torn (number_of w) r)

abbrev pub number_to : ℕ → Form ℕ
number_to stop = record { Fits = λ n. n ≤ last; write = λ n. decimal_of n ++ stop ∷ []; read = read_number stop }

-- No number has more than 20 digits.
pub digits_most_20 : (n : ℕ) → n ≤ last → length (decimal_of n) ≤ 20
digits_most_20 n h = digits_most 19 n (omega arith)
