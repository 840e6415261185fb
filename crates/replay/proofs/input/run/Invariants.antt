-- What was read is fed and said, and the turns fall.
use Rattle.replay.specs.Fed.{kept_of}
use Rattle.replay.proofs.Sayings.{Going}
use Rattle.replay.proofs.input.run.Given as goal

abbrev pub invariant-loop-turns : goal.invariant-loop-turns
invariant-loop-turns g l =
    Going g.R.Read.remaining g.W.Write.contents l.initial.input l.input l.initial.output l.output (kept_of l.replay) l.more l.turns

abbrev pub decreases-loop-turns : goal.decreases-loop-turns
decreases-loop-turns g l = l.turns
