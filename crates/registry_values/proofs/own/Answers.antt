-- `own` meets its contract: the id is unknown, or a value or none.
use Rattle.registry_values.specs.Questions.{own_none, own_answer}
use Rattle.registry_values.proofs.own.Goals as goal

pub returns-in_err-at : goal.returns-in_err-at
returns-in_err-at c = own_none _ _ _ _ _ c.from_residual.ensures.1 c.in_err-at.ensures _

pub returns : goal.returns
returns c = own_answer _ _ _ c.in_ok-at.ensures _ _ c.value_of.ensures
