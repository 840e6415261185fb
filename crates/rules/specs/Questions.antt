-- Every question with its arguments and lent lists, and what is written to a lent buffer. Neither changes the registry.
use Rattle.std.specs.Prelude.{ℕ, List}
use Rattle.rules.specs.Holds.{Port, Registry}
use Rattle.rules.specs.Outcomes.{Outcome}
use Rattle.rules.specs.Ports.{resolve_key}
use Rattle.rules.specs.Dependencies.{dependency_port}
use Rattle.rules.specs.Replacement.{fits}
use Rattle.rules.specs.Admission.{Ticket, admits}
use Rattle.rules.specs.Retirement.{child_identity}
use Rattle.rules.specs.Values.{read, visible, own, missing, matching, declares}
use Rattle.rules.specs.Lists.{Which, list}
use Rattle.rules.specs.Text.{write_text}
use Rattle.rules.specs.Queries.{Field, Total, ask_plugin, ask_registry, id_from}
use Rattle.rules.specs.Orders.{check_order, plan_order}

-- A question is a line here: its arguments, its number, and what it comes to in a registry r. Of that step tells the reply alone, so
-- that it changes nothing.
pub data Question : ℕ → (Registry → Outcome) → Type 0 where
  ResolveKey : (realms : List ℕ) (key : ℕ) → Question 0 λ r. resolve_key realms key
  DependencyPort : (id key : ℕ) → Question 1 λ r. dependency_port r id key
  Fits : (id times : ℕ) → Question 2 λ r. fits r id times
  Admits : (t : Ticket) → Question 3 λ r. admits r t
  ChildIdentity : (id : ℕ) → Question 4 λ r. child_identity r id
  Read : (id : ℕ) (q : Port) → Question 5 λ r. read r id q
  Visible : (q : Port) → Question 6 λ r. visible r q
  Own : (id : ℕ) (q : Port) → Question 7 λ r. own r id q
  FirstMissing : (id : ℕ) → Question 8 λ r. missing r id
  Matching : (id : ℕ) (ports : List ℕ) → Question 9 λ r. matching r id ports
  Declares : (id : ℕ) (q : Port) → Question 10 λ r. declares r id q
  AskPlugin : (f : Field) (id : ℕ) → Question 11 λ r. ask_plugin r f id
  AskRegistry : (t : Total) → Question 12 λ r. ask_registry r t
  IdFrom : (number : ℕ) → Question 13 λ r. id_from r number
  CheckOrder : (set order : List ℕ) → Question 14 λ r. check_order r set order

-- how many there are
abbrev pub question_count : ℕ
question_count = 15

-- What is written to a lent buffer.
pub data Writing : Type 0 where
  Listed : Which → (id place : ℕ) → Writing
  Text : Writing
  Order : (set : List ℕ) → Writing

abbrev pub writing : Registry → Writing → (buffer : List ℕ) → Outcome
writing r (Listed w id place) buffer = list r w id place buffer
writing r Text buffer = write_text r buffer
writing r (Order set) buffer = plan_order r set buffer
