-- The bytes of a line that has not ended, one by one.
use Rattle.std.specs.Prelude.{ℕ, ◌+◌, List, ltb, set}
use Rattle.rules.specs.Basics.{pick}

-- The most bytes of a line, its byte 10 not counted.
abbrev pub longest : ℕ
longest = 4096

-- One more byte. Of a line that is too long, only that is kept.
abbrev pub longer_bytes : List ℕ → ℕ → ℕ → List ℕ
longer_bytes line filled byte = pick (ltb filled longest) (set line filled byte) line

abbrev pub longer_count : ℕ → ℕ
longer_count filled = pick (ltb filled longest) (filled + 1) (longest + 1)
