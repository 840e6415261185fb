-- `rows_of_four` meets its contract: the word's four lowest bits say which of the four places are taken, and each call counts one place.
use Rattle.std.proofs.Common.{arith}
use Rattle.memory_places.proofs.Loops.{rows_four}
use Rattle.memory_places.proofs.rows_of_four.Goals as goal

pub returns : goal.returns
returns c = (
  omega arith,
  rows_four _ _ _ c.requires.0
      c.requires.1 _ _ _ _ c.rows_at-first.ensures.1 c.rows_at-second.ensures.1
      c.rows_at-third.ensures.1 c.rows_at-fourth.ensures.1,
)
