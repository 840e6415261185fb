-- A line with room takes the byte; any other stays, and counts as too long. Assumes nothing.
use Prim.Native.Nat.{ℕ, ◌+◌, ◌≤◌, ◌<◌}
use mathlib.Core.Path.{◌≡◌}
use mathlib.Core.List.{List}
use lib.ListN.{set}
use borrow.Author.Tests.{lt-ltb, le-ltb}
use Rattle.console_words.specs.Bytes.{longer_bytes, longer_count}

module _ (filled : ℕ) where
  pub one_more_lem : filled < 4096 → filled + 1 ≡ longer_count filled
  one_more_lem h = rw (lt-ltb filled 4096 h)

  pub too_many : 4096 ≤ filled → 4097 ≡ longer_count filled
  too_many h = rw (le-ltb filled 4096 h)

module _ (line : List ℕ) (filled byte : ℕ) where
  pub line_with : filled < 4096 → set line filled byte ≡ longer_bytes line filled byte
  line_with h = rw (lt-ltb filled 4096 h)

  pub line_stays : 4096 ≤ filled → line ≡ longer_bytes line filled byte
  line_stays h = rw (le-ltb filled 4096 h)
