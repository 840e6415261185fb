-- The lines of the console, each kind: what it says on a page, and what it leaves.
use Rattle.std.specs.Prelude.{ℕ, List, [], ◌∷◌, eqb, length, get_or, take, replicate, Option, Some, None}
use Rattle.rules.specs.Basics.{pick}
use Rattle.rules.specs.Steps.{lent_after_step, Write}
use Rattle.rules.specs.Questions.{Listed}
use Rattle.rules.specs.Questions as writing
use Rattle.memory.specs.View.{view}
use Rattle.host_answers.specs.Told.{status_of, words_of}
use Rattle.host.specs.Tells.{answer}
use Rattle.console_answer.specs.Pages.{text_room, put_on, numbers_on}
use Rattle.console_answer.specs.declared.Page.{Page}
use Rattle.console_answer.specs.Answers.{ok_word, bad_word, told_in}
use Rattle.console_names.specs.declared.Count.{Count}
use Rattle.console_names.specs.declared.Values.{Values}
use Rattle.console_names.specs.declared.Values.TheVariants.{Numbers, YesOrNo}
use Rattle.console_names.specs.declared.Held.{Held}
use Rattle.console_names.specs.declared.Kind.{Kind}
use Rattle.console_names.specs.declared.Kind.TheVariants.{Show, Buffer, Lists, Registry, Text, Load, Plan}
use Rattle.console_names.specs.Table.{Asked, Told, takes, first, second, rest, asked_at}
use Rattle.console_definition.specs.Definitions.{definition_in}
pub use Rattle.console_show.specs.Spoken.{untold}
use Rattle.console_show.specs.Spoken.{spoken_on}
use Rattle.console_show.specs.Buffered.{between}
use Rattle.console_show.specs.Shown.{shown_on}
use Rattle.console_operations.specs.Asked.{which_of}
use Rattle.console_operations.specs.Carried.{status_by, words_by, left_by}
use Rattle.console_register.specs.Registrations.{registration}
use Rattle.console_order.specs.Checks.{sets_in, checking}
use Rattle.console_order.specs.Plans.{planned_on, lent_ids}

-- What a line says, and the registry's words and the buffer that it leaves.
pub record Done : Type 0 where
  pub page : Page
  pub memory : List ℕ
  pub buffer : List ℕ

-- Byte 10 ends an answer's line.
abbrev pub line_end : Page → Page
line_end p = put_on p (10 ∷ [])

abbrev pub bad : Page → Page
bad p = line_end (put_on p bad_word)

-- What is asked of the registry, said and done.
abbrev pub asked_line : Page → List ℕ → Values → Asked → Page
asked_line p m v a = line_end (spoken_on p v (status_by m a) (told_in (words_by m a untold)))

abbrev pub asked_done : Page → List ℕ → List ℕ → Values → Asked → Done
asked_done p m buffer v a = record { page = asked_line p m v a; memory = left_by m a; buffer = buffer }

-- deps, provs, realms: ID PLACE
abbrev pub listed : Page → List ℕ → List ℕ → Held → List ℕ → Done
listed p m buffer held l =
    let o = Write (Listed (which_of held) (first l) (second l)) buffer in
    record { page = asked_line p m Numbers (Told o); memory = m; buffer = lent_after_step (view m) o }

-- The registry's text: behind the line of an acceptance stand as many of the lent bytes as it says.
unfoldable pub text_on : Page → List ℕ → (lent : List ℕ) → Page
text_on p m lent =
    let o = Write writing.Text lent in
    let line = asked_line p m Numbers (Told o) in
    let length = get_or (words_of (answer m o) untold) 1 0 in
    pick (eqb (status_of (answer m o)) 0) (put_on line (take length (lent_after_step (view m) o))) line

-- So many bytes are lent, or all that the console has.
abbrev pub lent_bytes : ℕ → List ℕ
lent_bytes size = take size (replicate text_room 0)

-- Numbers, as many as are due: show ID, buffer FROM TO, a list, what the registry is asked for, write SIZE, or plan SIZE ID.. Of load
-- DOMAIN LENGTH nothing is said before its text has come.
abbrev pub numbers_line : Page → List ℕ → List ℕ → ℕ → Kind → List ℕ → Done
numbers_line p m buffer place Show l = record { page = line_end (shown_on p m (first l)); memory = m; buffer = buffer }
numbers_line p m buffer place Buffer l = record
    { page = line_end (numbers_on (put_on p ok_word) (between (first l) (second l) buffer)); memory = m; buffer = buffer }
numbers_line p m buffer place (Lists held) l = listed p m buffer held l
numbers_line p m buffer place (Registry r v) l = asked_done p m buffer v (asked_at place l)
numbers_line p m buffer place Text l = record { page = text_on p m (lent_bytes (first l)); memory = m; buffer = buffer }
numbers_line p m buffer place Load l = record { page = p; memory = m; buffer = buffer }
numbers_line p m buffer place Plan l = record { page = line_end (planned_on p m (rest l) (lent_ids (first l))); memory = m; buffer = buffer }

abbrev pub bad_line : Page → List ℕ → List ℕ → Done
bad_line p m buffer = record { page = bad p; memory = m; buffer = buffer }

-- An operation whose words are all numbers.
abbrev pub or_bad : Page → List ℕ → List ℕ → ℕ → Count → Kind → Option (List ℕ) → Done
or_bad p m buffer place count kind None = bad_line p m buffer
or_bad p m buffer place count kind (Some l) = pick (takes count (length l)) (numbers_line p m buffer place kind l) (bad_line p m buffer)

-- register
abbrev pub register_line : Page → List ℕ → List ℕ → List ℕ → ℕ → Done
register_line p m buffer line from = asked_done p m buffer Numbers (registration (definition_in line from))

-- check
abbrev pub check_line : Page → List ℕ → List ℕ → List ℕ → ℕ → Done
check_line p m buffer line from = record { page = asked_line p m YesOrNo (checking (sets_in line from)); memory = m; buffer = buffer }
