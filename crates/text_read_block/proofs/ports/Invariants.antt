-- After i lines these ports stand in the words, and the text was read up to the place behind them.
use Rattle.text_read_block.proofs.PortLines.{PortsSoFar}
use Rattle.text_read_block.proofs.ports.Given as goal

abbrev pub invariant-loop-i : goal.invariant-loop-i
invariant-loop-i l = PortsSoFar l.key l.text l.initial.behind l.initial.into l.row l.into l.behind l.i
