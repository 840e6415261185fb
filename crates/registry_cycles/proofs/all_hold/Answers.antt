-- `all_hold` meets its contract: the first test that fails is the answer.
use Rattle.registry_cycles.proofs.Hold.{hold_ports, hold_rows, hold_rounds}
use Rattle.registry_cycles.proofs.all_hold.Goals as goal

pub returns-then-not-differ : goal.returns-then-not-differ
returns-then-not-differ c = hold_ports _ _ c.differ.ensures c.if-not-differ.true

pub returns-then-not-fill_rows : goal.returns-then-not-fill_rows
returns-then-not-fill_rows c =
    hold_rows _ _ c.differ.ensures c.if-not-differ.false _ c.running-among.ensures _ c.fill_rows.ensures.0
    c.if-not-fill_rows.true

pub returns : goal.returns
returns c =
    let y = c.if-not-fill_rows.false in
    hold_rounds _ _ c.differ.ensures c.if-not-differ.false _ c.running-among.ensures _ c.fill_rows.ensures.0 y _
    (c.fill_rows.ensures.1 y) _ c.none_waiting.ensures
