-- A slot's line: what it says on a page, and the slot that it leaves.
use Rattle.std.specs.Prelude.{ℕ, ◌≡◌, List, Option, Some, None}
use Rattle.rules.specs.Slot.{Slot, Decided}
use Rattle.console_words.specs.Words.{next_word, bytes_of}
use Rattle.console_names.specs.Behind.{numbers_behind}
use Rattle.console_answer.specs.Pages.{put_on}
use Rattle.console_answer.specs.declared.Page.{Page}
use Rattle.console_answer.specs.Answers.{bad_word}
use Rattle.console_answer.specs.Slots.{decided_on}
use Rattle.console_slot.specs.Operations.{decided_by}

pub record SlotAfter : Type 0 where
  pub page : Page
  pub slot : Slot

-- A page and a slot as a line leaves them.
abbrev pub LeavesSlot : SlotAfter → Page → Slot → Type 0
LeavesSlot t page slot = (page ≡ t.page) × (slot ≡ t.slot)

abbrev pub decided_or : Page → Slot → Option Decided → SlotAfter
decided_or p s None = record { page = put_on p bad_word; slot = s }
decided_or p s (Some d) = record { page = decided_on p d; slot = d.slot }

abbrev pub named_line : Page → Slot → List ℕ → Option (List ℕ) → SlotAfter
named_line p s name None = record { page = put_on p bad_word; slot = s }
named_line p s name (Some l) = decided_or p s (decided_by s name l)

-- slot NAME N..
abbrev pub slot_line : Page → Slot → List ℕ → ℕ → SlotAfter
slot_line p s line from =
    let w = next_word line from in
    named_line p s (bytes_of line w) (numbers_behind line w.stop)
