-- `dependency_port` meets its contract.
use Rattle.std.proofs.Common.{rules}
use Rattle.registry_queries.proofs.Laws.{no_port, port_found}
use Rattle.registry_queries.proofs.dependency_port.Goals as goal

pub returns-in_err-at : goal.returns-in_err-at
returns-in_err-at c = no_port _ _ _ _ _ c.from_residual.ensures.1 c.in_err-at.ensures _

pub returns : goal.returns
returns c =
    port_found _ _ _ c.in_ok-at.ensures _ _ c.dependency_words-list.ensures _ _ c.first_port.ensures (search rules)
