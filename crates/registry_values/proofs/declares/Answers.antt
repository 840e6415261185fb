-- `declares` meets its contract: the id is unknown, or its plugin tells.
use Rattle.registry_values.specs.Questions.{declares_none, declares_answer}
use Rattle.registry_values.proofs.declares.Goals as goal

pub returns-in_err-at : goal.returns-in_err-at
returns-in_err-at c = declares_none _ _ _ _ _ c.from_residual.ensures.1 c.in_err-at.ensures _

pub returns : goal.returns
returns c = declares_answer _ _ _ c.in_ok-at.ensures _ _ c.is_declared.ensures
