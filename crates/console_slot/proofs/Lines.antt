-- A slot's line from its words. Assumes nothing.
use Rattle.std.specs.Prelude.{Option, Some, None}
use Prim.Native.Nat.{ℕ}
use mathlib.Core.Path.{◌≡◌}
use mathlib.Core.List.{List}
use Rattle.rules.specs.Slot.{Slot, Decided}
use Rattle.console_words.specs.Words.{next_word, bytes_of}
use Rattle.console_words.specs.declared.Span.{Span}
use Rattle.console_names.specs.Behind.{numbers_behind}
use Rattle.console_answer.specs.declared.Page.{Page}
use Rattle.console_slot.specs.Operations.{decided_by}
use Rattle.console_slot.specs.Lines.{SlotAfter, LeavesSlot, decided_or, slot_line}

pub same_after : (a b : SlotAfter) (page : Page) (slot : Slot) → a ≡ b → LeavesSlot b page slot → LeavesSlot a page slot
same_after a b page slot e t = rw e t

module _ (p : Page) (s : Slot) (line : List ℕ) (from : ℕ) (w : Span) (e : w ≡ next_word line from) where
  pub bad_line_lem : numbers_behind line w.stop ≡ None → slot_line p s line from ≡ decided_or p s None
  bad_line_lem h =
      let k : numbers_behind line (next_word line from).stop ≡ None = rw e at h in
      rw k

  pub named_line_lem : (l : List ℕ) → numbers_behind line w.stop ≡ Some l → (t : Option Decided) → t ≡ decided_by s (bytes_of line w) l
      → slot_line p s line from ≡ decided_or p s t
  named_line_lem l h t d =
      let k : numbers_behind line (next_word line from).stop ≡ Some l = rw e at h in
      rw (k, d, e)
