-- The number is 0 or 1, or there is no mark.
use Rattle.std.specs.Prelude.{true, false}
use Rattle.std.proofs.Common.{arith}
use Rattle.text_read.proofs.Fewer.{mark_next, mark_torn, mark_over}
use Rattle.text_read.proofs.mark_line.Goals as goal

pub returns-in_err-n : goal.returns-in_err-n
returns-in_err-n c = rw c.from_residual.ensures (mark_torn c.in_err-n.ensures)

pub returns-in-0 : goal.returns-in-0
returns-in-0 c = mark_next false (rw c.in-0.is at c.in_ok-n.ensures)

pub returns-in-1 : goal.returns-in-1
returns-in-1 c = mark_next true (rw c.in-1.is at c.in_ok-n.ensures)

pub returns-in_default : goal.returns-in_default
returns-in_default c = mark_over (omega (arith, c.in_default)) c.in_ok-n.ensures
