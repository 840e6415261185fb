-- `decided_by` meets its contract: no number, three numbers and any other count are the definition's cases.
use Rattle.std.proofs.Common.{◌∙◌, arith}
use Rattle.slot_child.specs.Slots.{slot_of}
use Rattle.console_slot.proofs.Operations.{no_number, three_numbers, other_count}
use Rattle.console_slot.proofs.decided_by.Goals as goal

pub returns-in-empty : goal.returns-in-empty
returns-in-empty c = c.with_none.ensures ∙ no_number (slot_of c.args.slot) c.args.name.now c.args.list.now (omega arith)

pub returns-in-len3 : goal.returns-in-len3
returns-in-len3 c =
    c.with_three.ensures ∙ three_numbers (slot_of c.args.slot) c.args.name.now c.args.list.now (omega arith)

pub returns-in_default : goal.returns-in_default
returns-in_default c = other_count (slot_of c.args.slot) c.args.name.now c.args.list.now (λ e. omega arith) (λ e. omega arith)

pub returns-in_default-2 : goal.returns-in_default-2
returns-in_default-2 c = other_count (slot_of c.args.slot) c.args.name.now c.args.list.now (λ e. omega arith) (λ e. omega arith)
