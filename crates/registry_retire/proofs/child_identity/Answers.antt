-- `child_identity` meets its contract: it refuses an unknown id, and answers by the parent of the plugin found.
use Rattle.rules.specs.Retirement.{child_identity}
use Rattle.memory.specs.Known.{looked_up, unknown_answer}
use Rattle.registry_retire.specs.Laws.{identity_orphan, identity_child}
use Rattle.registry_retire.proofs.child_identity.Goals as goal

pub returns-in_err-at : goal.returns-in_err-at
unfolding child_identity
returns-in_err-at c = unknown_answer _ _ _ _ _ c.from_residual.ensures.1 c.in_err-at.ensures _

pub returns-in_default : goal.returns-in_default
returns-in_default c = identity_orphan _ _ _ _ (looked_up _ _ _ c.in_ok-at.ensures) c.parent_of.ensures c.in_default.is

pub returns : goal.returns
returns c = identity_child _ _ _ _ (looked_up _ _ _ c.in_ok-at.ensures) c.parent_of.ensures _ _ c.in-Some.is c.domain.ensures
