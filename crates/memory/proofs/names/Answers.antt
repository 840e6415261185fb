-- `names` meets its contract: the id first, then whether the place is taken.
use Rattle.memory.proofs.Search.{names_taken, names_other}
use Rattle.memory.proofs.names.Goals as goal

pub returns-then-m-place : goal.returns-then-m-place
returns-then-m-place c = names_taken _ _ _ _ c.if-m-place.true c.is_taken.ensures

pub returns-else-m-place : goal.returns-else-m-place
returns-else-m-place c = names_other _ _ _ c.if-m-place.false
