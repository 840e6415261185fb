-- What the console says, byte by byte of its input, and when an output holds it.
use Rattle.std.specs.Prelude.{ℕ, ◌≡◌, ◌<◌, ◌-◌, ◌^◌, Bool, true, false, List, [], ◌∷◌, ◌++◌, length, eqb, take, replicate, IsOk, Option, Some, None}
use Rattle.std.specs.Io.KnownBytes.{Appends, Consumes, IsAtEnd}
use Rattle.rules.specs.Basics.{pick}
use Rattle.rules.specs.Slot.{pending}
use Rattle.memory.specs.Layout.{memory_words}
use Rattle.demands.specs.Starts.{blank}
use Rattle.console_words.specs.Bytes.{longest}
use Rattle.console_answer.specs.Pages.{empty_page, text_room}
use Rattle.console_answer.specs.declared.Page.{Page}
use Rattle.console_line.specs.Console.{line_ended}
use Rattle.console_load.specs.declared.Awaited.{Awaited}
use Rattle.console_load.specs.Awaited.{awaited}
use Rattle.console_load.specs.Loaded.{load_ended}
use Rattle.replay.specs.declared.text.Due.{Due}
use Rattle.replay.specs.declared.output.Output.{Output}
use Rattle.replay.specs.Fed.{Kept, kept, due_of, awaiting, longer_text, one_more, end_line, byte_fed, fed}

-- Unless a write failed, these bytes are written, behind those that were.
abbrev pub Says : {W : Type 0} → (W → Option (List ℕ)) → Output W → Output W → List ℕ → Type 0
Says contents old new bytes = IsOk new.written → IsOk old.written × Appends (contents old.to) (contents new.to) bytes

-- What stands on a page.
abbrev pub page_said : Page → List ℕ
page_said p = take p.place p.text

-- The answer to a load, when its text is at its end.
abbrev pub text_said : List ℕ → List ℕ → Due → List ℕ
text_said m text d = page_said (load_ended empty_page m d.awaited.domain d.awaited.length (take d.came text)).page

abbrev pub whole_said : List ℕ → List ℕ → Due → List ℕ
whole_said m text d = pick (awaiting d) [] (text_said m text d)

abbrev pub cut_said : List ℕ → List ℕ → Due → List ℕ
cut_said m text d = pick (awaiting d) (text_said m text d) []

abbrev pub begun_said : Option Awaited → List ℕ → List ℕ → Due → List ℕ
begun_said (Some a) m text d = whole_said m text (record { awaited = a; came = 0 })
begun_said None m text d = []

abbrev pub ended_said : Kept → List ℕ
ended_said k = text_said k.memory k.text k.due

abbrev pub whole_text_said : Kept → List ℕ
whole_text_said k = whole_said k.memory k.text k.due

-- The answer to a line, when it is at its end.
abbrev pub line_said : Kept → List ℕ
line_said k =
    let a = line_ended empty_page k.memory k.buffer k.slot k.line k.filled in
    page_said a.page ++ begun_said (awaited k.line k.filled) a.memory k.text k.due

abbrev pub text_byte_said : Kept → ℕ → List ℕ
text_byte_said k byte = whole_said k.memory (longer_text k.text k.due.came byte) (one_more k.due)

abbrev pub byte_said : Kept → ℕ → List ℕ
byte_said k byte =
    pick (awaiting k.due) (text_byte_said k byte)
    (pick (eqb byte 10) (line_said k) [])

-- The answers to these bytes, one behind the other.
unfoldable pub said : Kept → List ℕ → List ℕ
said k [] = []
said k (byte ∷ bytes) = byte_said k byte ++ said (byte_fed k byte) bytes

abbrev pub cut_off_said : Kept → List ℕ
cut_off_said k = cut_said k.memory k.text k.due

-- What is said at the input's end.
abbrev pub end_said : Kept → List ℕ
end_said k = pick (awaiting k.due) (cut_off_said k) (line_said k ++ cut_off_said (end_line k))

-- How many words the buffer has.
abbrev pub buffer_room : ℕ
buffer_room = 100

-- What is kept before the first byte: a fresh registry of domain 0, zeros in the buffer, and a Pending slot.
abbrev pub start : Kept
start = kept (blank (replicate memory_words 0) 0 0) (replicate buffer_room 0) (pending 0 0 0) (replicate longest 0) 0 (replicate text_room 0) (due_of 0 0 0)

-- All that is said of an input.
abbrev pub all_said : List ℕ → List ℕ
all_said bytes = said start bytes ++ end_said (fed start bytes)

-- Some bytes of the input are read and fed, and what is said of them is written. With none, the input is at its end.
pub record FeedsSome {R W : Type 0} (remaining : R → Option (List ℕ)) (contents : W → Option (List ℕ))
    (input input' : R) (output output' : Output W) (k k' : Kept) (more : Bool) : Type 0 where
  pub bytes : List ℕ
  pub read : Consumes (remaining input) (remaining input') bytes
  pub keeps : k' ≡ fed k bytes
  pub says : Says contents output output' (said k bytes)
  pub some : more ≡ true → 0 < length bytes
  pub none : more ≡ false → IsAtEnd (remaining input')

-- What is written is what is said of the bytes that are read, and those are the input's whole, unless it has more than a run can read.
pub record Answers (input input' output output' : Option (List ℕ)) : Type 0 where
  pub bytes : List ℕ
  pub read : Consumes input input' bytes
  pub whole : length bytes < 2 ^ 64 - 1 → IsAtEnd input'
  pub written : Appends output output' (all_said bytes)
