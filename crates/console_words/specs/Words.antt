-- The words of a line, parted by one or more spaces.
use Rattle.std.specs.Prelude.{ℕ, ◌+◌, ◌-◌, ◌≤◌, ◌≡◌, List, [], ◌∷◌, eqb, ltb, length, take, drop}
use Rattle.rules.specs.Basics.{pick}
use Rattle.console_words.specs.declared.Span.{Span}

abbrev pub space : ℕ
space = 32

-- How many spaces come first.
unfoldable pub spaces : List ℕ → ℕ
spaces [] = 0
spaces (b ∷ s) = pick (eqb b space) (spaces s + 1) 0

-- How many bytes come before the first space.
unfoldable pub word_length : List ℕ → ℕ
word_length [] = 0
word_length (b ∷ s) = pick (eqb b space) 0 (word_length s + 1)

abbrev pub word_at : List ℕ → ℕ → Span
word_at line start = record { start = start; stop = start + word_length (drop start line) }

-- The first word at or after a place; without one, no bytes at the line's end.
unfoldable pub next_word : List ℕ → ℕ → Span
next_word line from = pick (ltb (length line) from) (record { start = length line; stop = length line }) (word_at line (from + spaces (drop from line)))

-- The bytes of a span.
abbrev pub bytes_of : List ℕ → Span → List ℕ
bytes_of line w = take (w.stop - w.start) (drop w.start line)

pub record Spanned (line : List ℕ) (from : ℕ) (r : Span) : Type 0 where
  pub word : r ≡ next_word line from
  pub order : r.start ≤ r.stop
  pub within : r.stop ≤ length line
