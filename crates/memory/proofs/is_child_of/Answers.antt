-- `is_child_of` meets its contract: a tag of 0 is no parent, and any other tag makes the word behind it the parent's id.
use Rattle.memory.proofs.Codes.{parent_rest}
use Rattle.memory.proofs.is_child_of.Goals as goal

pub returns-else-m-b-ne0 : goal.returns-else-m-b-ne0
returns-else-m-b-ne0 c = rw c.if-m-b-ne0.false

pub returns-then-m-b-ne0 : goal.returns-then-m-b-ne0
returns-then-m-b-ne0 c = rw (← parent_rest _ _ c.if-m-b-ne0.true)
