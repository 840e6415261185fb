-- Lines: a key and a value, each value with the byte that ends it. 10 ends a line.
use Rattle.std.specs.Prelude.{ℕ, List, ◌++◌, ◌⊎◌, Option, Some, None}
use Prim.Native.String.{String}
use Rattle.std.proofs.Common.{inl, inr}
use Rattle.text_form.specs.Bytes.{bytes}
use Rattle.text_form.specs.Forms.{Form, behind, literal, either, like, counted}
use Rattle.text_form.specs.Numbers.{number_to}

-- `key=value`
abbrev pub line : {A : Type 0} → String → Form A → Form A
line key value = behind (bytes key ++ bytes "=") value

abbrev pub number : Form ℕ
number = number_to 10

-- a count, and a line for each of so many
abbrev pub list : {A : Type 0} → String → String → Form A → Form (List A)
list plural key value = counted (line plural number) (line key value)

-- a number with a comma behind it
abbrev pub comma : Form ℕ
comma = number_to 44

-- number or none
abbrev pub from_option : Option ℕ → ℕ ⊎ Unit {0}
from_option (Some n) = inl n
from_option None = inr tt

abbrev pub to_option : ℕ ⊎ Unit {0} → Option ℕ
to_option (inl n) = Some n
to_option (inr u) = None

abbrev pub number_or_none : Form (Option ℕ)
number_or_none = like (either number (literal (bytes "none\n"))) from_option to_option
