-- `Slot::assign` meets its contract. Assumes nothing.
use Rattle.std.proofs.Common.{◌∙◌, sym}
use Rattle.slot_child.specs.Slots.{foreign}
use Rattle.slot_child.proofs.Laws.{akin}
use Rattle.slot_child.proofs.Slot.assign.Goals as goal

pub returns-then-not-is_of : goal.returns-then-not-is_of
returns-then-not-is_of c = c.refused.ensures ∙ sym (foreign _ _ (sym c.is_of.ensures ∙ c.if-not-is_of.true))

pub returns : goal.returns
returns c = c.decided.ensures ∙ akin _ _ (sym c.is_of.ensures ∙ c.if-not-is_of.false)
