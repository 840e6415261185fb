-- `check_order` meets its contract.
use Rattle.std.proofs.lemmas.Result.{err_from_is_err_and}
use Rattle.memory.specs.View.{view}
use Rattle.registry_order.proofs.Laws.{order_refused, order_told}
use Rattle.registry_order.proofs.check_order.Goals as goal

pub returns-in_err-set_verdict : goal.returns-in_err-set_verdict
returns-in_err-set_verdict c =
    let a = c.args in
    let p = err_from_is_err_and c.from_residual.result c.from_residual.ensures.1 in
    rw (p.1, p.2) (order_refused (view a.m.now) a.set.now a.order.now _ c.in_err-set_verdict.ensures)

pub returns : goal.returns
returns c =
    let a = c.args in
    order_told (view a.m.now) a.set.now a.order.now c.in_ok-set_verdict.ensures _ c.is_passing.ensures
