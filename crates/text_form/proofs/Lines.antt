-- The laws of lines.
use Rattle.std.specs.Prelude.{Option, Some, None}
use Rattle.std.proofs.Common.{ℕ, ◌≡◌, refl, List, ◌++◌, ◌⊎◌, inl, inr}
use Prim.Native.String.{String}
use Rattle.text_form.specs.Bytes.{bytes}
use Rattle.text_form.specs.Words.{number_of, value_from}
use Rattle.text_form.specs.Forms.{torn, Form, Lawful, literal, either}
use Rattle.text_form.specs.Numbers.{read_number, up_to}
use Rattle.text_form.specs.Lines.{line, number, list, comma, from_option, to_option, number_or_none}
use Rattle.text_form.proofs.Forms.{behind_lawful, literal_lawful, either_lawful, like_lawful, counted_lawful}
use Rattle.text_form.proofs.Numbers.{number_to_lawful}

pub line_lawful : {A : Type 0} (key : String) {f : Form A} → Lawful f → Lawful (line key f)
line_lawful key {f} l = behind_lawful (bytes key ++ bytes "=") f l

pub number_lawful : Lawful number
number_lawful = number_to_lawful 10 refl

pub list_lawful : {A : Type 0} (plural key : String) {f : Form A} → Lawful f → Lawful (list plural key f)
list_lawful plural key l = counted_lawful (line_lawful plural number_lawful) (line_lawful key l)

pub comma_lawful : Lawful comma
comma_lawful = number_to_lawful 44 refl

pub option_there : (a : ℕ ⊎ Unit {0}) → from_option (to_option a) ≡ a
option_there (inl n) = refl
option_there (inr u) = refl

pub option_again : (b : Option ℕ) → to_option (from_option b) ≡ b
option_again (Some n) = refl
option_again None = refl

pub none_apart : (u : Unit {0}) (rest : List ℕ) → number.read ((literal (bytes "none\n")).write u ++ rest) ≡ torn
unfolding read_number up_to number_of value_from
none_apart u rest = refl

pub number_or_none_lawful : Lawful number_or_none
number_or_none_lawful =
    like_lawful (either number (literal (bytes "none\n")))
    (either_lawful number (literal (bytes "none\n")) number_lawful (literal_lawful (bytes "none\n")) none_apart)
    from_option to_option option_there option_again
