-- `generation_of` meets its contract. Assumes nothing.
use Rattle.std.proofs.Common.{rules}
use Rattle.slot_words.proofs.Laws.{generation_rest}
use Rattle.slot_words.proofs.generation_of.Goals as goal

pub returns-in_default : goal.returns-in_default
returns-in_default c = generation_rest _ _ (search rules)
