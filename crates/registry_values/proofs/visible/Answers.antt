-- `visible` meets its contract: no provider, an Active one, or another.
use Rattle.registry_values.specs.Questions.{visible_nobody, visible_waiting, visible_value}
use Rattle.registry_values.proofs.visible.Goals as goal

pub returns-in_err-from : goal.returns-in_err-from
returns-in_err-from c = rw c.from_residual.ensures (visible_nobody _ _ _ c.provider.ensures c.in_err-from.was)

pub returns-then-not-is_active : goal.returns-then-not-is_active
returns-then-not-is_active c =
    visible_waiting _ _ _ c.provider.ensures _ c.in_ok-from.was _ c.load.ensures _ c.is_active.ensures c.if-not-is_active.true

pub returns : goal.returns
returns c =
    visible_value _ _ _ c.provider.ensures _ c.in_ok-from.was _ c.load.ensures _ c.is_active.ensures c.if-not-is_active.false
    c.value_of.result c.value_of.ensures
