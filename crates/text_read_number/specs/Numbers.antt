-- A number in one pass: its digits one behind the other, up to a byte that is no digit.
use Rattle.std.specs.Prelude.{ℕ, List, [], ◌∷◌, eqb}
use Rattle.rules_basics.specs.Basics.{pick}
use Rattle.text_form.specs.Forms.{Read, found, torn, and_then}
use Rattle.text_form.specs.Words.{value_from}
use Rattle.text_form.specs.Numbers.{up_to, or_torn}

-- The number n, and the byte that ends it.
abbrev pub stop_at : ℕ → ℕ → List ℕ → Read ℕ
stop_at stop n [] = torn
stop_at stop n (b ∷ t) = pick (eqb b stop) (found n t) torn

-- The number n with the digits up to that byte behind it.
unfoldable pub value_to : ℕ → ℕ → List ℕ → Read ℕ
value_to stop n t = and_then (up_to stop t) (λ w r. or_torn (value_from n w) r)
