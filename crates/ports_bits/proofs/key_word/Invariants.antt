-- `key_word` meets its contract: from the last row to the first.
use Rattle.ports_bits.specs.Keys.{WordFrom}
use Rattle.ports_bits.proofs.key_word.Given as goal

abbrev pub invariant-loop-row : goal.invariant-loop-row
invariant-loop-row l = WordFrom l.word l.ports l.row l.bits
