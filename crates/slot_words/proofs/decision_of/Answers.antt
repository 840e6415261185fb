-- `decision_of` meets its contract. Assumes nothing.
use Rattle.std.proofs.Common.{rules}
use Rattle.slot_words.proofs.Laws.{decision_rest}
use Rattle.slot_words.proofs.decision_of.Goals as goal

pub returns-in-1 : goal.returns-in-1
returns-in-1 c = rw c.in-1.is

pub returns-in_default : goal.returns-in_default
returns-in_default c = decision_rest _ _ (search rules) (search rules) (search rules)
