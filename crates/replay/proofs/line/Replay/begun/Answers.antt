-- `begun` meets its contract: a fresh registry, a Pending slot and no text that is due are the definition's start.
use Rattle.replay.proofs.Sayings.{begun}
use Rattle.replay.proofs.line.Replay.begun.Goals as goal

pub returns : goal.returns
returns c = begun _ _ _ c.vaskelbi_open.ensures c.pending.ensures c.nothing.ensures
