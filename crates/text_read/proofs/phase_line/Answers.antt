-- The number is a phase's, or there is none.
use Rattle.std.proofs.Common.{arith}
use Rattle.rules_types.specs.declared.Phase.TheVariants.{Idle, Loading, Active, Unloading}
use Rattle.text_read.proofs.Fewer.{phase_next, phase_torn, phase_over}
use Rattle.text_read.proofs.phase_line.Goals as goal

pub returns-in_err-n : goal.returns-in_err-n
returns-in_err-n c = rw c.from_residual.ensures (phase_torn c.in_err-n.ensures)

pub returns-in-0 : goal.returns-in-0
returns-in-0 c = phase_next Idle (rw c.in-0.is at c.in_ok-n.ensures)

pub returns-in-1 : goal.returns-in-1
returns-in-1 c = phase_next Loading (rw c.in-1.is at c.in_ok-n.ensures)

pub returns-in-2 : goal.returns-in-2
returns-in-2 c = phase_next Active (rw c.in-2.is at c.in_ok-n.ensures)

pub returns-in-3 : goal.returns-in-3
returns-in-3 c = phase_next Unloading (rw c.in-3.is at c.in_ok-n.ensures)

pub returns-in_default : goal.returns-in_default
returns-in_default c = phase_over (omega (arith, c.in_default)) c.in_ok-n.ensures
