-- The source's types lose nothing of document 01's: a contract allows one outcome.
use Rattle.std.specs.Prelude.{◌≡◌, refl, Result}
use Rattle.std.proofs.Common.{sym, ap, ◌∙◌}
use Rattle.rules.specs.Slot as rules
use Rattle.slot_child.specs.declared.Decision.{Decision}
use Rattle.slot_child.specs.declared.Decision.TheVariants.{Pending, Assigned, Failed, Cancelled}
use Rattle.slot_child.specs.declared.Slot.{Slot}
use Rattle.rules.specs.Refusals.{Refusal}
use Rattle.rules.specs.Answers.{done_exact}
use Rattle.slot_child.specs.declared.Decided.{Decided}
use Rattle.slot_child.specs.Slots.{decision_of, slot_of, decided_of}

-- The way back from document 01's values.
abbrev decision : rules.Decision → Decision
decision rules.Pending = Pending
decision (rules.Assigned c) = Assigned (record { domain = c.domain; parent = c.parent; id = c.id })
decision rules.Failed = Failed
decision rules.Cancelled = Cancelled

abbrev slot : rules.Slot → Slot
slot s = record { domain = s.domain; parent = s.parent; generation = s.generation; decision = decision s.decision }

decision_back : (d : Decision) → decision (decision_of d) ≡ d
decision_back Pending = refl
decision_back (Assigned c) = refl
decision_back Failed = refl
decision_back Cancelled = refl

slot_back : (s : Slot) → slot (slot_of s) ≡ s
slot_back s = rw decision_back

pub slot_exact : (a b : Slot) → slot_of a ≡ slot_of b → a ≡ b
slot_exact a b e = sym (slot_back a) ∙ ap slot e ∙ slot_back b

-- Two outcomes that the contract of assign, reject or cancel allows are equal.
pub decided_exact : (a b : Decided) → decided_of a ≡ decided_of b → a ≡ b
decided_exact a b e =
    let s : a.slot ≡ b.slot = slot_exact a.slot b.slot (ap (λ (d : rules.Decided). d.slot) e) in
    let v : a.verdict ≡ b.verdict = done_exact a.verdict b.verdict (ap (λ (d : rules.Decided). d.answer) e) in
    ap (λ (x : Slot). record { slot = x; verdict = a.verdict }) s ∙ ap (λ (x : Result Unit Refusal). record { slot = b.slot; verdict = x }) v
