-- `remove` meets its contract: each return is a case of the rule.
use Rattle.std.proofs.Common.{[]}
use Rattle.rules.specs.Refusals.{InvalidState, HasChildren}
use Rattle.rules.specs.Retirement.{remove}
use Rattle.memory.specs.Ways.{meets_refused}
use Rattle.memory.specs.Known.{looked_up}
use Rattle.memory_life.specs.Told.{told_unknown}
use Rattle.registry_remove.specs.Laws.{freed_done, remove_not, remove_parent}
use Rattle.registry_remove.proofs.remove.Goals as goal

pub returns-in_err-at : goal.returns-in_err-at
unfolding remove
returns-in_err-at c = told_unknown _ _ _ _ _ _ c.from_residual.ensures.1 c.in_err-at.ensures _

pub returns-then-not-is_removable : goal.returns-then-not-is_removable
returns-then-not-is_removable c =
    meets_refused _ _ _ InvalidState [] (remove_not _ _ _ _ _ (looked_up _ _ _ c.in_ok-at.ensures) c.load.ensures c.is_removable.ensures
    c.if-not-is_removable.true)

pub returns-then-has_children : goal.returns-then-has_children
returns-then-has_children c =
    meets_refused _ _ _ HasChildren [] (remove_parent _ _ _ _ _ (looked_up _ _ _ c.in_ok-at.ensures) c.load.ensures c.is_removable.ensures _
    c.if-not-is_removable.false c.has_children.ensures c.if-has_children.true)

pub returns : goal.returns
returns c =
    freed_done _ _ _ _ _ (looked_up _ _ _ c.in_ok-at.ensures) c.load.ensures c.is_removable.ensures _ c.if-not-is_removable.false
    c.has_children.ensures _ c.if-has_children.false c.free_place.ensures
