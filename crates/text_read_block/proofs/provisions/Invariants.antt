-- After i lines these provisions stand in the words, and the text was read up to the place behind them.
use Rattle.text_read_block.proofs.ProvisionLines.{ProvisionsSoFar}
use Rattle.text_read_block.proofs.provisions.Given as goal

abbrev pub invariant-loop-i : goal.invariant-loop-i
invariant-loop-i l = ProvisionsSoFar l.text l.initial.next l.initial.claims l.initial.values l.claims l.values l.next l.i l.valued l.mask
