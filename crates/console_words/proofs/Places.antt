-- Spaces and words, one byte at a time. Assumes nothing.
use Prim.Native.Nat.{ℕ, ◌+◌, ◌≤◌, ◌<◌}
use mathlib.Core.Path.{◌≡◌}
use mathlib.Core.List.{List}
use native.Mathlib.Numerals.{add-one}
use native.Mathlib.Omega.{arith}
use lib.ListN.{length, get_or, drop, drop_of_length-le}
use lib.Seq.{drop-cons}
use borrow.Author.Tests.{eq-eqb, ne_eqb, lt-ltb, le-ltb}
use Rattle.console_words.specs.Words.{space, spaces, word_length, next_word, Spanned}

module _ (s : List ℕ) (i : ℕ) where
  pub spaces_end : length s ≤ i → spaces (drop i s) ≡ 0
  unfolding spaces
  spaces_end h = rw (drop_of_length-le s h)

  pub spaces_stop : i < length s → (get_or s i 0 ≡ space → ⊥) → spaces (drop i s) ≡ 0
  unfolding spaces
  spaces_stop h n = rw (drop-cons s i 0 h, ne_eqb (get_or s i 0) space n)

  pub spaces_next : i < length s → get_or s i 0 ≡ space → spaces (drop i s) ≡ spaces (drop (i + 1) s) + 1
  unfolding spaces
  spaces_next h e = rw (add-one i, drop-cons s i 0 h, eq-eqb (get_or s i 0) space e)

  pub word_end : length s ≤ i → word_length (drop i s) ≡ 0
  unfolding word_length
  word_end h = rw (drop_of_length-le s h)

  pub word_stop : i < length s → get_or s i 0 ≡ space → word_length (drop i s) ≡ 0
  unfolding word_length
  word_stop h e = rw (drop-cons s i 0 h, eq-eqb (get_or s i 0) space e)

  pub word_next : i < length s → (get_or s i 0 ≡ space → ⊥) → word_length (drop i s) ≡ word_length (drop (i + 1) s) + 1
  unfolding word_length
  word_next h n = rw (add-one i, drop-cons s i 0 h, ne_eqb (get_or s i 0) space n)

module _ (line : List ℕ) (from : ℕ) where
  pub none_left : length line < from → Spanned line from (record { start = length line; stop = length line })
  unfolding next_word
  none_left h = record { word = rw (lt-ltb (length line) from h); order = omega arith; within = omega arith }

  pub one_word : (start stop : ℕ) → from ≤ length line → start ≡ from + spaces (drop from line) → stop ≡ start + word_length (drop start line)
      → stop ≤ length line → Spanned line from (record { start = start; stop = stop })
  unfolding next_word
  one_word start stop h e d l = record { word = rw (le-ltb (length line) from h, ← e, d); order = omega arith; within = l }
