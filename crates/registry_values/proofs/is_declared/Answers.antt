-- `is_declared` meets its contract: each return is a case of the rule.
use Rattle.registry_values.specs.Questions.{declared_provision, declared_idle, declared_dependency}
use Rattle.registry_values.proofs.is_declared.Goals as goal

pub returns-then-has_port : goal.returns-then-has_port
returns-then-has_port c = declared_provision _ _ _ _ _ c.has_port.ensures c.provision_words.ensures c.if-has_port.true

pub returns-then-is_running : goal.returns-then-is_running
returns-then-is_running c =
    declared_dependency _ _ _ _ _ c.has_port.ensures c.provision_words.ensures c.if-has_port.false
    _ c.load.ensures _ c.is_running.ensures c.if-is_running.true _ _ c.has_port-then-is_running.ensures c.dependency_words.ensures

pub returns-else-is_running : goal.returns-else-is_running
returns-else-is_running c =
    declared_idle _ _ _ _ _ c.has_port.ensures c.provision_words.ensures c.if-has_port.false
    _ c.load.ensures _ c.is_running.ensures c.if-is_running.false
