-- `Slot::cancel` meets its contract. Assumes nothing.
use Rattle.std.proofs.Common.{rules}
use Rattle.rules.specs.Slot.{cancel}
use Rattle.slot_child.proofs.Slot.cancel.Goals as goal

pub returns : goal.returns
unfolding cancel
returns c = search rules
