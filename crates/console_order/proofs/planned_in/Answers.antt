-- `planned_in` meets its contract: ids where a count was told, and else the registry's line.
use Rattle.console_order.proofs.Laws.{planned_other, planned_ids}
use Rattle.console_order.proofs.planned_in.Goals as goal

pub returns-then-out-eq0 : goal.returns-then-out-eq0
returns-then-out-eq0 c =
    let x = c.args in
    planned_other x.page.now x.m.now x.set.now x.room.now _ _ _ c.vaskelbi_plan_order-status.ensures c.if-out-eq0.true _ c.spoken.ensures

pub returns : goal.returns
returns c =
    let x = c.args in
    planned_ids x.page.now x.m.now x.set.now x.room.now _ _ _ c.vaskelbi_plan_order-status.ensures c.if-out-eq0.false
    _ c.put.ensures _ c.some_words.ensures _ c.numbers.ensures
