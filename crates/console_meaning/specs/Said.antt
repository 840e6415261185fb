-- What is to be said of each thing asked for, and that what the rows ask for has few values.
use Rattle.std.specs.Prelude.{ℕ, zero, suc, ◌≡◌, refl, List, [], ◌∷◌, get_or, Option, Some, None}
use Rattle.rules.specs.Registration.{Definition}
use Rattle.rules.specs.Queries.{RowsInUse, Registered, NextId}
use Rattle.host.specs.Tells.{answer}
use Rattle.console_answer.specs.Pages.{put_on}
use Rattle.console_answer.specs.declared.Page.{Page}
use Rattle.console_answer.specs.Answers.{ok_word}
use Rattle.console_names.specs.declared.Values.{Values}
use Rattle.console_names.specs.declared.Values.TheVariants.{None, Numbers, NumbersOrNone, YesOrNo}
use Rattle.console_names.specs.declared.Kind.TheVariants.{Show, Buffer, Lists, Registry, Text, Load, Plan}
use Rattle.console_names.specs.declared.Row.{Row}
use Rattle.console_names.specs.declared.Row.TheVariants.{Slot, Register, Check, Takes, Unknown}
use Rattle.console_names.specs.Table.{Asked, Bad, Open, Stated, Told, Operation, first, operations, unknown, operation_at, row_at, asked_by, asked_at}
use Rattle.console_show.specs.Spoken.{line_on}
use Rattle.console_register.specs.Registrations.{registration}
use Rattle.console_order.specs.Checks.{TwoLists, checking}
use Rattle.console_line.specs.Lines.{line_end, bad}
use Rattle.console_meaning.specs.Values.{Brief, register_brief, begin_brief, replace_brief, fits_brief, admit_brief, call_brief, child_brief, read_brief}
use Rattle.console_meaning.specs.Values.{visible_brief, missing_brief, matches_brief, declares_brief, lookup_brief, resolve_brief, total_brief}
use Rattle.console_meaning.specs.Values.{edition_brief, check_brief}
use Rattle.console_meaning.specs.Values.{Silent, ready_silent, fail_silent, unload_silent, finish_silent}
use Rattle.console_meaning.specs.Values.{retire_silent, retire_child_silent, remove_silent, offer_silent}

infixr 20 ◌&◌
-- What the line of a thing asked for says: that it is bad, that a registry is opened, or the rules' answer.
abbrev pub said_of : Page → List ℕ → Values → Asked → Page
said_of p m v Bad = bad p
said_of p m v (Open domain first) = line_end (put_on p ok_word)
said_of p m v (Stated o) = line_end (line_on p v (answer m o))
said_of p m v (Told o) = line_end (line_on p v (answer m o))

-- A registry is opened with no values, what is only stated answers no number, and what is told six at most.
abbrev pub Plain : Values → Asked → Type 0
Plain v Bad = Unit {0}
Plain v (Open domain first) = v ≡ None
Plain v (Stated o) = Silent o
Plain v (Told o) = Brief o

-- The values that a row says of an acceptance.
abbrev pub values_by : Row → Values
values_by Slot = None
values_by Register = Numbers
values_by Check = YesOrNo
values_by (Takes count Show) = Numbers
values_by (Takes count Buffer) = Numbers
values_by (Takes count (Lists held)) = Numbers
values_by (Takes count (Registry r v)) = v
values_by (Takes count Text) = Numbers
values_by (Takes count Load) = None
values_by (Takes count Plan) = NumbersOrNone
values_by Unknown = None

-- What is to be shown of a row, beside that of the others: nothing where nothing is asked for.
abbrev Shown : Values → Asked → Type 0 → Type 0
Shown v Bad N = N
Shown v (Open domain first) N = (v ≡ None) × N
Shown v (Stated o) N = Silent o × N
Shown v (Told o) N = Brief o × N

-- a fact, and those of the rows behind
◌&◌ : {A B : Type 0} → A → B → A × B
a & b = (a, b)

abbrev ShownRows : List ℕ → List Operation → Type 0
ShownRows l [] = Unit {0}
ShownRows l (o ∷ os) = Shown (values_by o.row) (asked_by o.row l) (ShownRows l os)

shown_plain : (v : Values) (a : Asked) (N : Type 0) → Shown v a N → Plain v a × N
shown_plain v Bad N h = (tt, h)
shown_plain v (Open domain first) N h = h
shown_plain v (Stated o) N h = h
shown_plain v (Told o) N h = h

plain_in : (l : List ℕ) (os : List Operation) → ShownRows l os → (place : ℕ) → Plain (values_by (get_or os place unknown).row) (asked_by (get_or os place unknown).row l)
plain_in l [] h place = tt
plain_in l (o ∷ os) h zero = (shown_plain (values_by o.row) (asked_by o.row l) (ShownRows l os) h).0
plain_in l (o ∷ os) h (suc place) = plain_in l os (shown_plain (values_by o.row) (asked_by o.row l) (ShownRows l os) h).1 place

-- a fact for each row that asks for something, in the table's order
shown : (l : List ℕ) → ShownRows l operations
shown l =
    refl
    & begin_brief _
    & ready_silent _
    & fail_silent _
    & unload_silent _
    & finish_silent _
    & replace_brief _ _
    & fits_brief _ _
    & admit_brief _ _
    & call_brief _
    & retire_silent _
    & retire_child_silent _
    & remove_silent _
    & child_brief _
    & offer_silent _ _ _
    & read_brief _ _
    & visible_brief _
    & missing_brief _
    & matches_brief _ _
    & declares_brief _ _
    & lookup_brief _ _
    & resolve_brief _ _
    & total_brief RowsInUse
    & total_brief Registered
    & total_brief NextId
    & edition_brief _
    & tt

-- Plain is all that a line of numbers asks for,
pub plain_asked : (place : ℕ) (l : List ℕ) → Plain (values_by (row_at place)) (asked_at place l)
unfolding operation_at
plain_asked place l = plain_in l operations (shown l) place

-- .. and a registration.
pub plain_registration : (v : Values) (d : Option Definition) → Plain v (registration d)
plain_registration v None = tt
plain_registration v (Some d) = register_brief d

-- .. and a check.
pub plain_check : (v : Values) (l : Option TwoLists) → Plain v (checking l)
plain_check v None = tt
plain_check v (Some l) = check_brief l.set l.order
