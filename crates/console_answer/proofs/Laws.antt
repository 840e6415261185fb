-- Bytes that fit and bytes that do not, and numbers one by one. Assumes nothing.
use Prim.Native.Nat.{ℕ, ◌+◌, ◌≤◌, ◌<◌}
use mathlib.Core.Path.{◌≡◌}
use mathlib.Core.List.{List, ◌++◌, append_assoc}
use native.Mathlib.Numerals.{add-one}
use lib.ListN.{length, get_or, take, drop, drop_of_length-le}
use lib.Seq.{drop-cons, drop-drop}
use borrow.Author.Tests.{lt-ltb, le-ltb}
use Rattle.console_answer.specs.Pages.{up_to, room, put_on, number_on, numbers_on}
use Rattle.console_answer.specs.declared.Page.{Page}

module _ (text bytes : List ℕ) (from : ℕ) where
  pub left_out : room < from + length bytes → up_to text from ≡ put_on (up_to text from) bytes
  unfolding put_on
  left_out h = rw (lt-ltb room (from + length bytes) h)

  -- All of them, behind the bytes before and before those behind.
  pub all_put_lem : from + length bytes ≤ room → (now : List ℕ) → now ≡ bytes → (n : ℕ) → n ≡ length bytes
      → up_to (take from text ++ (now ++ drop n (drop from text))) (from + length bytes) ≡ put_on (up_to text from) bytes
  unfolding put_on
  all_put_lem h now e n k = rw (le-ltb room (from + length bytes) h, e, k, drop-drop (length bytes) from text, append_assoc)

module _ (p : Page) (l : List ℕ) (i : ℕ) where
  pub numbers_next : i < length l → numbers_on p (drop i l) ≡ numbers_on (number_on p (get_or l i 0)) (drop (i + 1) l)
  unfolding numbers_on
  numbers_next h = rw (add-one i, drop-cons l i 0 h)

  pub numbers_end : length l ≤ i → numbers_on p (drop i l) ≡ p
  unfolding numbers_on
  numbers_end h = rw (drop_of_length-le l h)
