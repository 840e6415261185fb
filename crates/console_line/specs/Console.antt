-- The console: one line on a registry's words, a buffer and a slot.
use Rattle.std.specs.Prelude.{ℕ, ◌≡◌, List, ◌||◌, eqb, ltb, get_or, take}
use Rattle.rules.specs.Basics.{pick}
use Rattle.rules.specs.Slot.{Slot}
use Rattle.console_words.specs.Bytes.{longest}
use Rattle.console_words.specs.Words.{next_word, bytes_of}
use Rattle.console_answer.specs.declared.Page.{Page}
use Rattle.console_names.specs.Behind.{numbers_behind}
use Rattle.console_names.specs.Names.{place_among}
use Rattle.console_names.specs.declared.Row.{Row}
use Rattle.console_names.specs.declared.Row.TheVariants as row
use Rattle.console_names.specs.Table.{names, row_at}
use Rattle.console_slot.specs.Lines.{SlotAfter, slot_line}
use Rattle.slot_child.specs.Slots.{slot_of}
use Rattle.console_line.specs.declared.Console.{Console}
use Rattle.console_line.specs.Lines.{Done, line_end, bad_line, or_bad, register_line, check_line}

-- What a line says, and what it leaves.
pub record After : Type 0 where
  pub page : Page
  pub memory : List ℕ
  pub buffer : List ℕ
  pub slot : Slot

abbrev pub keeps_slot : Slot → Done → After
keeps_slot s d = record { page = d.page; memory = d.memory; buffer = d.buffer; slot = s }

abbrev pub slot_ended : SlotAfter → SlotAfter
slot_ended t = record { page = line_end t.page; slot = t.slot }

abbrev pub keeps_registry : List ℕ → List ℕ → SlotAfter → After
keeps_registry m buffer t = record { page = t.page; memory = m; buffer = buffer; slot = t.slot }

-- What stands behind the name at a place, by the operation's row.
abbrev pub operate_by : Row → Page → List ℕ → List ℕ → Slot → List ℕ → ℕ → ℕ → After
operate_by row.Slot p m buffer s line place from = keeps_registry m buffer (slot_ended (slot_line p s line from))
operate_by row.Register p m buffer s line place from = keeps_slot s (register_line p m buffer line from)
operate_by row.Check p m buffer s line place from = keeps_slot s (check_line p m buffer line from)
operate_by (row.Takes count kind) p m buffer s line place from = keeps_slot s (or_bad p m buffer place count kind (numbers_behind line from))
operate_by row.Unknown p m buffer s line place from = keeps_slot s (bad_line p m buffer)

-- The operation at a place among the names, with what stands behind its name.
abbrev pub operate : Page → List ℕ → List ℕ → Slot → List ℕ → ℕ → ℕ → After
operate p m buffer s line place from = operate_by (row_at place) p m buffer s line place from

-- The first word is the operation's name.
unfoldable pub answered : Page → List ℕ → List ℕ → Slot → List ℕ → After
answered p m buffer s line =
    let w = next_word line 0 in
    operate p m buffer s line (place_among (bytes_of line w) names) w.stop

-- A page and a console as a line leaves them.
abbrev pub Leaves : After → Page → Console → Type 0
Leaves a page c = (page ≡ a.page) × (c.memory ≡ a.memory) × (c.buffer ≡ a.buffer) × (slot_of c.slot ≡ a.slot)

-- #
abbrev pub hash : ℕ
hash = 35

-- A line is at its end, of which so many bytes came. An empty one, and one that begins with `#`, is passed over; a longer
-- one than 4,096 bytes is bad.
unfoldable pub line_ended : Page → List ℕ → List ℕ → Slot → List ℕ → ℕ → After
line_ended p m buffer s line filled =
    pick (eqb filled 0 || eqb (get_or line 0 0) hash) (record { page = p; memory = m; buffer = buffer; slot = s })
    (pick (ltb longest filled) (keeps_slot s (bad_line p m buffer))
    (answered p m buffer s (take filled line)))
