-- `given` meets its contract: a value or none.
use Rattle.registry_values.specs.Questions.{gives_value, gives_nothing}
use Rattle.registry_values.proofs.given.Goals as goal

pub returns-in_err-value : goal.returns-in_err-value
returns-in_err-value c = gives_nothing _ _ _ _ c.value_of.ensures _ _ _ c.from_residual.ensures.1 c.in_err-value.ensures.value

pub returns : goal.returns
returns c = gives_value _ _ _ _ c.value_of.ensures _ c.in_ok-value.ensures.ok_part _ c.id.ensures
