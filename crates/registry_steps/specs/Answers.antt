-- What beginning answers in document 01's numbers.
use Rattle.std.specs.Prelude.{ℕ, List, [], ◌∷◌, Result}
use Rattle.rules.specs.Refusals.{Refusal}
use Rattle.rules.specs.Outcomes.{Answer}
use Rattle.rules.specs.Answers.{answered}
use Rattle.registry_table.specs.declared.Ticket.{Ticket}

abbrev pub ticket_numbers : Ticket → List ℕ
ticket_numbers t = t.domain ∷ t.id ∷ t.generation ∷ t.kind ∷ []

abbrev pub begun_answer : Result Ticket Refusal → Answer
begun_answer r = answered ticket_numbers r
