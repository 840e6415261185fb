-- `parent_from` meets its contract: a tag of 0 is no parent, and any other tag gives the id.
use Rattle.memory.proofs.Codes.{parent_rest}
use Rattle.memory.proofs.parent_from.Goals as goal

pub returns-else-tag-eq0 : goal.returns-else-tag-eq0
returns-else-tag-eq0 c = parent_rest _ _ c.if-tag-eq0.false
