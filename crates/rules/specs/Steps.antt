-- Every operation with its arguments and lent lists, its step, and the run of a sequence.
use Rattle.std.specs.Prelude.{ℕ, List, [], ◌∷◌}
use Rattle.rules.specs.Holds.{Port, Registry, opened}
use Rattle.rules.specs.Outcomes.{Answer, Outcome, tells, reply_of, answer_of, after, lent_after}
use Rattle.rules.specs.Registration.{Definition, register}
use Rattle.rules.specs.Phases.{begin, ready, fail, unload, finish}
use Rattle.rules.specs.Replacement.{replace}
use Rattle.rules.specs.Admission.{Ticket, Invocation, admit, call}
use Rattle.rules.specs.Retirement.{Identity, retire, retire_child, remove}
use Rattle.rules.specs.Values.{offer}
use Rattle.rules.specs.Questions.{Question, Writing, writing}

pub data Op : Type 0 where
  Register : Definition → Op
  Begin Ready Fail Unload Finish : (id : ℕ) → Op
  Replace : (id payload : ℕ) → Op
  Admit : Ticket → (argument : ℕ) → Op
  Call : Invocation → Op
  Retire : (id : ℕ) → Op
  RetireChild : Identity → Op
  Remove : (id : ℕ) → Op
  Offer : (id : ℕ) → Port → (value : ℕ) → Op
  Ask : {n : ℕ} {f : Registry → Outcome} → Question n f → Op
  Write : Writing → (buffer : List ℕ) → Op

-- A question changes nothing: what it comes to is told, and no more.
abbrev pub step : Registry → Op → Outcome
step r (Register d) = register r d
step r (Begin id) = begin r id
step r (Ready id) = ready r id
step r (Fail id) = fail r id
step r (Unload id) = unload r id
step r (Finish id) = finish r id
step r (Replace id payload) = replace r id payload
step r (Admit t argument) = admit r t argument
step r (Call t) = call r t
step r (Retire id) = retire r id
step r (RetireChild c) = retire_child r c
step r (Remove id) = remove r id
step r (Offer id q value) = offer r id q value
step r (Ask {f} q) = tells (reply_of (f r))
step r (Write w buffer) = writing r w buffer

-- What an operation answers, and the registry afterwards.
abbrev pub answer_to : Registry → Op → Answer
answer_to r o = answer_of (step r o)

abbrev pub after_step : Registry → Op → Registry
after_step r o = after r (step r o)

-- The buffer that an operation is lent to write to.
abbrev pub lent : Op → List ℕ
lent (Register d) = []
lent (Begin id) = []
lent (Ready id) = []
lent (Fail id) = []
lent (Unload id) = []
lent (Finish id) = []
lent (Replace id payload) = []
lent (Admit t argument) = []
lent (Call t) = []
lent (Retire id) = []
lent (RetireChild c) = []
lent (Remove id) = []
lent (Offer id q value) = []
lent (Ask q) = []
lent (Write w buffer) = buffer

abbrev pub lent_after_step : Registry → Op → List ℕ
lent_after_step r o = lent_after (lent o) (step r o)

-- An operation, what it answered, and the lent buffer afterwards.
pub record Event : Type 0 where
  pub op : Op
  pub answer : Answer
  pub lent : List ℕ

abbrev pub event : Registry → Op → Event
event r o = record { op = o; answer = answer_to r o; lent = lent_after_step r o }

-- A registry after some operations, with all that was asked and answered, the latest first.
pub record Run : Type 0 where
  pub registry : Registry
  pub events : List Event

abbrev pub go_on : Run → Op → Run
go_on s o = record { registry = after_step s.registry o; events = event s.registry o ∷ s.events }

abbrev pub go_on_with : Run → List Op → Run
go_on_with s [] = s
go_on_with s (o ∷ os) = go_on_with (go_on s o) os

-- The run of a sequence of operations from a registry; from an opening, of a fresh one.
abbrev pub run : Registry → List Op → Run
run r ops = go_on_with (record { registry = r; events = [] }) ops

abbrev pub run_fresh : ℕ → ℕ → List Op → Run
run_fresh d f ops = run (opened d f) ops
