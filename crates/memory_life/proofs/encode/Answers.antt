-- `encode` meets its contract: the phase's number is what its call promises, and the root's three words are those of its case.
use Rattle.memory.specs.Writes.{encoded}
use Rattle.memory_life.proofs.encode.Goals as goal
use Rattle.memory_life.proofs.encode.Goals.{in-Unissued, in-Queued, in-Spent}

pub returns : goal.returns
unfolding encoded
returns c =
    elim c.match-life.branch [
      | in-Unissued w ↦ rw (w.root-is, w.in-Unissued.is, c.number.ensures)
      | in-Queued w ↦ rw (w.root-is, w.in-Queued.is, c.number.ensures)
      | in-Spent w ↦ rw (w.root-is, w.in-Spent.is, c.number.ensures)
    ]
