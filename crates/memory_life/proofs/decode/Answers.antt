-- `decode` meets its contract: phase, root and generation are what the calls promise, and the rest is copied.
use Rattle.memory.specs.View.{decoded}
use Rattle.memory_life.proofs.decode.Goals as goal

pub returns : goal.returns
unfolding decoded
returns c = simp (c.phase_of.ensures, c.root_of.ensures, c.of.ensures)
