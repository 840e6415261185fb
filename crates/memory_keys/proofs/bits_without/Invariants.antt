-- `bits_without` meets its contract: from the last row to the first.
use Rattle.rules.specs.Holds.{port}
use Rattle.memory_keys.proofs.Laws.{Seen}
use Rattle.memory_keys.proofs.bits_without.Given as goal

abbrev pub invariant-loop-row : goal.invariant-loop-row
invariant-loop-row l = Seen l.word l.ports l.port l.row l.bits
