-- A run of numbers in a line.
use Rattle.std.specs.Prelude.{ℕ, zero, suc, ◌≤◌, ◌≡◌, List, [], ◌∷◌, length, Option, Some, None}
use Rattle.text_form.specs.Digits.{over}
use Rattle.text_form.specs.Words.{number_of}
use Rattle.console_words.specs.Words.{next_word, bytes_of}
use Rattle.console_words.specs.declared.Run.{Run}

-- The numbers, and the place where they stop.
pub record Numbers : Type 0 where
  pub found : List ℕ
  pub stop : ℕ

-- The number that the first word at or after a place is.
abbrev pub number_at : List ℕ → ℕ → Option ℕ
number_at line from = number_of (bytes_of line (next_word line from))

abbrev pub or_stop : Option ℕ → ℕ → Numbers → Numbers
or_stop None start rest = record { found = []; stop = start }
or_stop (Some n) start rest = record { found = n ∷ rest.found; stop = rest.stop }

-- Numbers from a place on, at most so many, up to the first word that is none.
unfoldable pub run_from : ℕ → List ℕ → ℕ → Numbers
run_from zero line from = record { found = []; stop = from }
run_from (suc most) line from = or_stop (number_at line from) (next_word line from).start (run_from most line (next_word line from).stop)

pub record Gathered (line : List ℕ) (from : ℕ) (before after : List ℕ) (r : Run) : Type 0 where
  pub count : r.count ≡ length (run_from 2048 line from).found
  pub stop : r.stop ≡ (run_from 2048 line from).stop
  pub numbers : after ≡ over (run_from 2048 line from).found before
  pub fits : r.count ≤ 2048
