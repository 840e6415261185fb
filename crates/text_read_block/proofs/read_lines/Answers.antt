-- The lines and the lists one behind the other.
use Rattle.text_read_block.proofs.BlockLines.{realms_torn, dependencies_torn, provisions_torn, lines_said}
use Rattle.text_read_block.proofs.read_lines.Goals as goal

pub returns-in_err-realms : goal.returns-in_err-realms
returns-in_err-realms c = rw c.from_residual-in_err-realms.ensures (realms_torn c.in_ok-head.ensures c.in_err-realms.ensures)

pub returns-in_err-dependencies : goal.returns-in_err-dependencies
returns-in_err-dependencies c =
    rw c.from_residual-in_err-dependencies.ensures (dependencies_torn c.in_ok-head.ensures c.in_ok-realms.ensures c.in_err-dependencies.ensures)

pub returns-in_err-provided : goal.returns-in_err-provided
returns-in_err-provided c =
    rw c.from_residual-in_err-provided.ensures
    (provisions_torn c.in_ok-head.ensures c.in_ok-realms.ensures c.in_ok-dependencies.ensures c.in_err-provided.ensures)

pub returns : goal.returns
returns c = lines_said c.in_ok-head.ensures c.in_ok-realms.ensures c.in_ok-dependencies.ensures c.put_row.ensures c.in_ok-provided.ensures
