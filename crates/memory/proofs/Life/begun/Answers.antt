-- `begun` meets its contract: the next generation's promise goes into the life's.
use Rattle.memory.proofs.Life.begun.Goals as goal

pub returns : goal.returns
returns c = simp c.next.ensures
