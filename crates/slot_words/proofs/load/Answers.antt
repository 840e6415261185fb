-- `load` meets its contract. Assumes nothing.
use Rattle.slot_words.specs.Words.{slot_at}
use Rattle.slot_words.proofs.load.Goals as goal

pub returns : goal.returns
unfolding slot_at
returns c = simp (c.generation_of.ensures, c.decision_of.ensures)
