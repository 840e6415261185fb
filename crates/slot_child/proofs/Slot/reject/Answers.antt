-- `Slot::reject` meets its contract. Assumes nothing.
use Rattle.std.proofs.Common.{rules}
use Rattle.rules.specs.Slot.{reject}
use Rattle.slot_child.proofs.Slot.reject.Goals as goal

pub returns : goal.returns
unfolding reject
returns c = search rules
