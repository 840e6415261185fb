-- `anchor` meets its contract.
use Rattle.rules.specs.Queries.{Anchor}
use Rattle.registry_queries.proofs.Laws.{no_answer, anchor_answer}
use Rattle.registry_queries.proofs.anchor.Goals as goal

pub returns-in_err-at : goal.returns-in_err-at
returns-in_err-at c = no_answer _ _ _ _ _ c.from_residual.ensures.1 c.in_err-at.ensures Anchor

pub returns : goal.returns
returns c = anchor_answer _ _ _ c.in_ok-at.ensures _ c.anchor.ensures
