-- A slot of the source as document 01's, and what an answer says.
use Rattle.std.specs.Prelude.{ℕ, ◌≡◌, Bool, false, ◌&&◌, [], eqb}
use Rattle.std.proofs.Math.Bool.{and-false}
use Rattle.rules.specs.Outcomes.{Refused}
use Rattle.rules.specs.Refusals.{number, InvalidState}
use Rattle.rules.specs.Retirement as retirement
use Rattle.rules.specs.Slot as rules
use Rattle.slot_child.specs.declared.Identity.{Identity}
use Rattle.slot_child.specs.declared.Decision.{Decision}
use Rattle.slot_child.specs.declared.Decision.TheVariants.{Pending, Assigned, Failed, Cancelled}
use Rattle.slot_child.specs.declared.Slot.{Slot}
use Rattle.rules.specs.Answers.{done_answer}
use Rattle.slot_child.specs.declared.Decided.{Decided}

abbrev pub identity_of : Identity → retirement.Identity
identity_of c = record { domain = c.domain; parent = c.parent; id = c.id }

-- whether a child is of this domain and this parent, which assigning asks
abbrev pub is_of : retirement.Identity → ℕ → ℕ → Bool
is_of c domain parent = eqb c.domain domain && eqb c.parent parent

abbrev pub decision_of : Decision → rules.Decision
decision_of Pending = rules.Pending
decision_of (Assigned c) = rules.Assigned (identity_of c)
decision_of Failed = rules.Failed
decision_of Cancelled = rules.Cancelled

abbrev pub slot_of : Slot → rules.Slot
slot_of s = record { domain = s.domain; parent = s.parent; generation = s.generation; decision = decision_of s.decision }

abbrev pub decided_of : Decided → rules.Decided
decided_of d = record { slot = slot_of d.slot; answer = done_answer d.verdict }

-- The slot as it was, with refusal 3.
abbrev pub refused_of : rules.Slot → rules.Decided
refused_of s = record { slot = s; answer = Refused (number InvalidState) [] }

-- A child of another origin is refused.
pub foreign : (s : rules.Slot) (c : retirement.Identity) → is_of c s.domain s.parent ≡ false → rules.assign s c ≡ refused_of s
unfolding rules.assign
foreign s c e = rw (e, and-false)
