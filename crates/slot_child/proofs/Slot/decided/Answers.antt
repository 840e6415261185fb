-- `Slot::decided` meets its contract: each arm has the rule at the decision that stands.
use Rattle.std.proofs.Common.{◌∙◌}
use Rattle.slot_child.proofs.Laws.{stands}
use Rattle.slot_child.proofs.Slot.decided.Goals as goal

pub returns-in-Pending : goal.returns-in-Pending
returns-in-Pending c = rw c.in-Pending.is c.taking.ensures

pub returns-in-Assigned : goal.returns-in-Assigned
returns-in-Assigned c = c.refused.ensures ∙ stands _ _ (rw c.in-Assigned.is)

pub returns-in-Failed : goal.returns-in-Failed
returns-in-Failed c = c.refused-in-Failed.ensures ∙ stands _ _ (rw c.in-Failed.is)

pub returns-in-Cancelled : goal.returns-in-Cancelled
returns-in-Cancelled c = c.refused-in-Cancelled.ensures ∙ stands _ _ (rw c.in-Cancelled.is)
