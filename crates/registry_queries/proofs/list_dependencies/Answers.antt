-- `list_dependencies` meets its contract.
use Rattle.rules.specs.Lists.{Dependencies}
use Rattle.registry_queries.proofs.Laws.{no_list, list_answer}
use Rattle.registry_queries.proofs.list_dependencies.Goals as goal

pub returns-in_err-at : goal.returns-in_err-at
returns-in_err-at c = no_list _ _ _ _ _ c.from_residual.ensures.1 c.in_err-at.ensures Dependencies _ _

pub returns : goal.returns
returns c = list_answer _ _ _ c.in_ok-at.ensures Dependencies _ _ _ _ _ c.dependency_words.ensures c.list_ports.ensures
