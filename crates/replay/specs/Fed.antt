-- The input, byte by byte: what the console keeps of it.
use Rattle.std.specs.Prelude.{ℕ, ◌+◌, Bool, List, [], ◌∷◌, eqb, ltb, take, set, Option, Some, None}
use Rattle.rules.specs.Basics.{pick}
use Rattle.rules.specs.Slot.{Slot}
use Rattle.console_words.specs.Bytes.{longer_bytes, longer_count}
use Rattle.console_answer.specs.Pages.{empty_page, text_room}
use Rattle.slot_child.specs.Slots.{slot_of}
use Rattle.console_line.specs.Console.{After, line_ended}
use Rattle.console_load.specs.declared.Awaited.{Awaited}
use Rattle.console_load.specs.Awaited.{text as text_awaited, awaited}
use Rattle.console_load.specs.Loaded.{load_ended}
use Rattle.replay.specs.declared.text.Due.{Due}
use Rattle.replay.specs.declared.line.Replay.{Replay}

-- The registry's words and what is due of a text.
pub record Texted : Type 0 where
  pub memory : List ℕ
  pub due : Due

abbrev pub texted : List ℕ → Due → Texted
texted memory due = record { memory = memory; due = due }

abbrev pub due_of : (domain length came : ℕ) → Due
due_of domain length came = record { awaited = text_awaited domain length; came = came }

-- Bytes of the text are still to come.
abbrev pub awaiting : Due → Bool
awaiting d = ltb d.came d.awaited.length

-- The text is what came of it: it is loaded, and nothing is due any more.
abbrev pub end_text : List ℕ → List ℕ → Due → Texted
end_text m text d = texted (load_ended empty_page m d.awaited.domain d.awaited.length (take d.came text)).memory (due_of 0 0 0)

-- A text ends with its last byte,
abbrev pub whole_text : List ℕ → List ℕ → Due → Texted
whole_text m text d = pick (awaiting d) (texted m d) (end_text m text d)

-- .. or with the input.
abbrev pub cut_text : List ℕ → List ℕ → Due → Texted
cut_text m text d = pick (awaiting d) (end_text m text d) (texted m d)

-- A text of no bytes is whole at once.
abbrev pub begun_text : Option Awaited → List ℕ → List ℕ → Due → Texted
begun_text (Some a) m text d = whole_text m text (record { awaited = a; came = 0 })
begun_text None m text d = texted m d

-- One more byte of a text; there is room for 131,072.
abbrev pub longer_text : List ℕ → ℕ → ℕ → List ℕ
longer_text text came byte = pick (ltb came text_room) (set text came byte) text

abbrev pub one_more : Due → Due
one_more d = record { awaited = d.awaited; came = d.came + 1 }

-- The registry's words, the buffer, the slot; of the line that has not ended its bytes and how many came; and the text's bytes
-- with what is due of it.
pub record Kept : Type 0 where
  pub memory : List ℕ
  pub buffer : List ℕ
  pub slot : Slot
  pub line : List ℕ
  pub filled : ℕ
  pub text : List ℕ
  pub due : Due

abbrev pub kept : List ℕ → List ℕ → Slot → List ℕ → ℕ → List ℕ → Due → Kept
kept memory buffer slot line filled text due = record {
  memory = memory;
  buffer = buffer;
  slot = slot;
  line = line;
  filled = filled;
  text = text;
  due = due;
}

abbrev pub kept_of : Replay → Kept
kept_of r = kept r.console.memory r.console.buffer (slot_of r.console.slot) r.line r.filled r.text r.due

abbrev pub with_text : Kept → List ℕ → Texted → Kept
with_text k text t = kept t.memory k.buffer k.slot k.line k.filled text t.due

abbrev pub ended_text : Kept → Kept
ended_text k = with_text k k.text (end_text k.memory k.text k.due)

abbrev pub whole : Kept → Kept
whole k = with_text k k.text (whole_text k.memory k.text k.due)

abbrev pub left : Kept → After → Texted → Kept
left k a t = kept t.memory a.buffer a.slot k.line 0 k.text t.due

-- Byte 10 ends the line: its operation is carried out, and one that awaits a text is followed by it.
abbrev pub end_line : Kept → Kept
end_line k =
    let a = line_ended empty_page k.memory k.buffer k.slot k.line k.filled in
    left k a (begun_text (awaited k.line k.filled) a.memory k.text k.due)

-- One more byte of the line.
abbrev pub longer_line : Kept → ℕ → Kept
longer_line k byte = kept k.memory k.buffer k.slot (longer_bytes k.line k.filled byte) (longer_count k.filled) k.text k.due

-- One more byte of the text, which is no line.
abbrev pub text_byte : Kept → ℕ → Kept
text_byte k byte =
    let text = longer_text k.text k.due.came byte in
    with_text k text (whole_text k.memory text (one_more k.due))

abbrev pub byte_fed : Kept → ℕ → Kept
byte_fed k byte = pick (awaiting k.due) (text_byte k byte) (pick (eqb byte 10) (end_line k) (longer_line k byte))

unfoldable pub fed : Kept → List ℕ → Kept
fed k [] = k
fed k (byte ∷ bytes) = fed (byte_fed k byte) bytes

abbrev pub cut_off : Kept → Kept
cut_off k = with_text k k.text (cut_text k.memory k.text k.due)

-- The input is at its end: the text that is due is what there is of it, and else the last line ends.
abbrev pub input_ended : Kept → Kept
input_ended k = cut_off (pick (awaiting k.due) k (end_line k))
