-- Edition and default, then the rows behind them.
use Rattle.text_read_block.proofs.PortLines.{realms_read}
use Rattle.text_read_block.proofs.realm_lines.Goals as goal

pub returns : goal.returns
returns c =
    let a = c.args in
    realms_read a.text.now a.at a.into.now _ _ _ c.in_ok-edition.ensures (rw (c.new.ensures, c.number.ensures, c.default.ensures) at c.put_row.ensures)
    c.ports.ensures
