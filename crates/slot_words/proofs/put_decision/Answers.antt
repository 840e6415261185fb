-- `put_decision` meets its contract. Assumes nothing.
use Rattle.slot_words.specs.Words.{put_decision}
use Rattle.slot_words.proofs.put_decision.Goals as goal

pub returns-in-Pending : goal.returns-in-Pending
unfolding put_decision
returns-in-Pending c = rw c.in-Pending.is

pub returns-in-Assigned : goal.returns-in-Assigned
unfolding put_decision
returns-in-Assigned c = rw c.in-Assigned.is

pub returns-in-Failed : goal.returns-in-Failed
unfolding put_decision
returns-in-Failed c = rw c.in-Failed.is

pub returns-in-Cancelled : goal.returns-in-Cancelled
unfolding put_decision
returns-in-Cancelled c = rw c.in-Cancelled.is
