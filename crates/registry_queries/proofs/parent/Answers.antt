-- `parent` meets its contract.
use Rattle.rules.specs.Queries.{Parent}
use Rattle.registry_queries.proofs.Laws.{no_answer, parent_answer}
use Rattle.registry_queries.proofs.parent.Goals as goal

pub returns-in_err-at : goal.returns-in_err-at
returns-in_err-at c = no_answer _ _ _ _ _ c.from_residual.ensures.1 c.in_err-at.ensures Parent

pub returns : goal.returns
returns c = parent_answer _ _ _ c.in_ok-at.ensures _ c.parent_of.ensures
