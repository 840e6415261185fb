-- `id_verdict` meets its contract: 1, 27 at a place that was seen, then what is checked of the found life.
use Rattle.std.proofs.Common.{arith}
use Rattle.std.proofs.lemmas.Result.{err_from_is_err_and}
use Rattle.memory.specs.Known.{at_below, looked_up}
use Rattle.registry_order.proofs.Seen.{by_none, by_seen, by_life}
use Rattle.registry_order.proofs.id_verdict.Goals as goal

pub returns-in_err-at : goal.returns-in_err-at
returns-in_err-at c =
    let p = err_from_is_err_and c.from_residual.result c.from_residual.ensures.1 in
    rw (p.1, p.2) (by_none _ _ _ _ c.in_err-at.ensures)

pub overflow_cast-at : goal.overflow_cast-at
overflow_cast-at c = record { fits = omega (arith, at_below _ _ _ (looked_up _ _ _ c.in_ok-at.ensures)) }

pub overflow_shr-seen : goal.overflow_shr-seen
overflow_shr-seen c = at_below _ _ _ (looked_up _ _ _ c.in_ok-at.ensures)

pub returns-then-seen-at-eq1 : goal.returns-then-seen-at-eq1
returns-then-seen-at-eq1 c = by_seen _ _ _ _ (looked_up _ _ _ c.in_ok-at.ensures) c.if-seen-at-eq1.true

pub returns-in_err-life_verdict : goal.returns-in_err-life_verdict
returns-in_err-life_verdict c =
    let p = err_from_is_err_and c.from_residual-in_err-life_verdict.result c.from_residual-in_err-life_verdict.ensures.1 in
    rw (p.1, p.2) (by_life _ _ _ _ (looked_up _ _ _ c.in_ok-at.ensures) c.if-seen-at-eq1.false _ c.load.ensures _ c.in_err-life_verdict.ensures)

pub returns : goal.returns
returns c =
    by_life _ _ _ _ (looked_up _ _ _ c.in_ok-at.ensures) c.if-seen-at-eq1.false _ c.load.ensures _ c.in_ok-life_verdict.ensures
