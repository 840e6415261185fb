-- After i lines these provisions stand in the words, and the text was read up to the place behind them.
use Rattle.std.proofs.Common.{arith}
use Rattle.text_read_block.proofs.ProvisionLines.{provisions_start, provisions_torn, provisions_more, provisions_end, valued_room}
use Rattle.text_read_block.proofs.provisions.Goals as goal

pub loop-i-init : goal.loop-i-init
loop-i-init c =
    let a = c.args in
    provisions_start a.text.now a.at a.claims.now a.values.now c.in_ok-count.ensures

pub returns-in_err-provision : goal.returns-in_err-provision
returns-in_err-provision c =
    let a = c.args in
    rw c.from_residual-in_err-provision.ensures
    (provisions_torn a.text.now a.at a.claims.now a.values.now c.in_ok-count.ensures c.loop-i.invariant c.loop-i.claims c.loop-i.values (omega arith)
    c.in_err-provision.ensures)

pub overflow_add-valued : goal.overflow_add-valued
overflow_add-valued c =
    let a = c.args in
    let room = valued_room a.text.now a.at a.claims.now a.values.now c.in_ok-count.ensures c.loop-i.invariant c.in_ok-provision.ensures (omega arith) in
    rw c.is_some-has_value.ensures (omega (arith, room))

pub loop-i-preserved : goal.loop-i-preserved
loop-i-preserved c =
    let a = c.args in
    rw (c.put_row.ensures, c.put_one.ensures, c.masked-mask.ensures, c.unwrap_or.ensures, c.is_some-has_value.ensures)
    (provisions_more a.text.now a.at a.claims.now a.values.now c.in_ok-count.ensures c.loop-i.invariant c.in_ok-provision.ensures)

pub returns : goal.returns
returns c =
    let a = c.args in
    provisions_end a.text.now a.at a.claims.now a.values.now c.in_ok-count.ensures c.loop-i.invariant (omega arith)
