-- `dependency_words` meets its contract.
use Rattle.memory_lists.proofs.Lists.{dep_words}
use Rattle.memory_lists.proofs.dependency_words.Goals as goal

pub returns : goal.returns
returns c = dep_words _ _ _ _ _ c.start.ensures c.dependencies-count.ensures c.some_words.ensures
