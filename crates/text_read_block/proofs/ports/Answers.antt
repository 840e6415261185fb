-- After i lines these ports stand in the words, and the text was read up to the place behind them.
use Rattle.std.proofs.Common.{arith}
use Rattle.text_read_block.proofs.PortLines.{ports_start, ports_torn, ports_more}
use Rattle.text_read_block.proofs.ports.Goals as goal

pub loop-i-init : goal.loop-i-init
loop-i-init c =
    let a = c.args in
    ports_start a.plural.now a.key.now a.text.now a.at a.into.now a.row c.in_ok-lines.ensures

pub returns-in_err-port : goal.returns-in_err-port
returns-in_err-port c =
    let a = c.args in
    rw c.from_residual-in_err-port.ensures
    (ports_torn a.plural.now a.key.now a.text.now a.at a.into.now a.row c.in_ok-lines.ensures c.loop-i.invariant c.loop-i.into (omega arith) c.in_err-port.ensures)

pub loop-i-preserved : goal.loop-i-preserved
loop-i-preserved c =
    let a = c.args in
    rw c.put_row.ensures
    (ports_more a.plural.now a.key.now a.text.now a.at a.into.now a.row c.in_ok-lines.ensures c.loop-i.invariant c.in_ok-port.ensures)
