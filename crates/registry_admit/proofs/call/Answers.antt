-- `call` meets its contract: each return is a case of the rule.
use Rattle.std.proofs.Common.{[]}
use Rattle.rules.specs.Refusals.{Retired, InvalidState, Stale}
use Rattle.memory.specs.Known.{looked_up, not_found}
use Rattle.memory_life.specs.Told.{told_refused, handed_on}
use Rattle.registry_admit.specs.Laws.{call_foreign, call_none, call_retired, call_stale, told_called}
use Rattle.registry_admit.proofs.call.Goals as goal

pub returns-then-invocation-domain : goal.returns-then-invocation-domain
returns-then-invocation-domain c = told_refused _ _ InvalidState [] (call_foreign _ _ _ c.domain.ensures c.if-invocation-domain.true)

pub returns-in_err-at : goal.returns-in_err-at
returns-in_err-at c =
    let n = not_found _ _ _ c.in_err-at.ensures in
    handed_on _ _ _ _ _ _ c.from_residual.ensures.1 (rw n.1 (call_none _ _ _ c.domain.ensures c.if-invocation-domain.false n.0))

pub returns-then-life : goal.returns-then-life
returns-then-life c =
    told_refused _ _ Retired [] (call_retired _ _ _ c.domain.ensures c.if-invocation-domain.false _ _ (looked_up _ _ _ c.in_ok-at.ensures)
    c.load-life.ensures c.if-life.true)

pub returns-then-not-is_live : goal.returns-then-not-is_live
returns-then-not-is_live c =
    told_refused _ _ Stale [] (call_stale _ _ _ c.domain.ensures c.if-invocation-domain.false _ _ (looked_up _ _ _ c.in_ok-at.ensures)
    c.load-life.ensures _ c.if-life.false c.is_live.ensures c.if-not-is_live.true)

pub returns : goal.returns
returns c =
    told_called _ _ _ c.domain.ensures c.if-invocation-domain.false _ _ (looked_up _ _ _ c.in_ok-at.ensures) c.load-life.ensures _
    c.if-life.false c.is_live.ensures _ _ c.if-not-is_live.false c.with_root.ensures c.store.ensures
