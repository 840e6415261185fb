-- What starts one plugin: it is begun, admitted, called, given its values and made ready.
use Rattle.std.specs.Prelude.{ℕ, ◌+◌, Bool, List, [], ◌∷◌, ◌++◌, map}
use Rattle.rules.specs.Basics.{all}
use Rattle.rules_types.specs.declared.Port.{Port}
use Rattle.rules.specs.Holds.{Plugin, provided}
use Rattle.rules.specs.Phases.{setup}
use Rattle.rules.specs.Admission.{Ticket, Invocation, is_accepted}
use Rattle.rules.specs.Steps.{Op, Begin, Ready, Admit, Call, Offer, Event}

-- What starts plugin p, under id x, in a registry of domain d: its ticket, its invocation with argument a, and a value for each provision.
abbrev pub ticket_of : (d x : ℕ) → Plugin → Ticket
ticket_of d x p = record { domain = d; id = x; generation = p.generation + 1; kind = setup }

abbrev pub invocation_of : (d a x : ℕ) → Plugin → Invocation
invocation_of d a x p = record { domain = d; id = x; generation = p.generation + 1; revision = p.revision; argument = a }

abbrev pub start_one : (d a : ℕ) → (Port → ℕ) → ℕ → Plugin → List Op
start_one d a v x p =
    Begin x ∷ Admit (ticket_of d x p) a ∷ Call (invocation_of d a x p) ∷ map (λ k. Offer x k (v k)) (provided p) ++ Ready x ∷ []

-- Every operation was accepted.
abbrev pub smooth : List Event → Bool
smooth es = all (λ (e : Event). is_accepted e.answer) es
