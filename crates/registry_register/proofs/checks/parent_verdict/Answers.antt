-- `parent_verdict` meets its contract: no parent, none found, or what a found one's mark and phase say.
use Rattle.std.proofs.Common.{sym, ◌∙◌}
use Rattle.std.proofs.lemmas.Result.{err_from_is_err_and}
use Rattle.memory.specs.Known.{looked_up}
use Rattle.registry_register.proofs.checks.Laws.{parent_none, parent_unknown, parent_retired, parent_stands, parent_unloading}
use Rattle.registry_register.proofs.checks.parent_verdict.Goals as goal

pub returns-in_default : goal.returns-in_default
returns-in_default c = parent_none _ _ c.in_default.is

pub returns-in_err-at : goal.returns-in_err-at
returns-in_err-at c =
    let p = err_from_is_err_and c.from_residual.result c.from_residual.ensures.1 in
    rw (p.1, p.2) (parent_unknown _ _ _ c.in-Some.is _ c.in_err-at.ensures)

pub returns-then-life : goal.returns-then-life
returns-then-life c = parent_retired _ _ _ c.in-Some.is _ (looked_up _ _ _ c.in_ok-at.ensures) _ c.load-life.ensures c.if-life.true

pub returns-then-is_unloading : goal.returns-then-is_unloading
returns-then-is_unloading c =
    parent_unloading _ _ _ c.in-Some.is _ (looked_up _ _ _ c.in_ok-at.ensures) _ c.load-life.ensures c.if-life.false
    (sym c.is_unloading.ensures ∙ c.if-is_unloading.true)

pub returns : goal.returns
returns c =
    parent_stands _ _ _ c.in-Some.is _ (looked_up _ _ _ c.in_ok-at.ensures) _ c.load-life.ensures c.if-life.false
    (sym c.is_unloading.ensures ∙ c.if-is_unloading.false)
