-- Until the key is found, the first port with it is the first of the rest, counted from i.
use Rattle.std.proofs.Common.{◌-◌, ◌*◌, ◌/◌, ◌≡◌, length, drop}
use Rattle.rules.specs.Ports.{pairs}
use Rattle.ports.specs.Answers.{first_from}
use Rattle.ports.proofs.first_port.Given as goal

abbrev pub invariant-loop-i : goal.invariant-loop-i
invariant-loop-i l = first_from 0 l.key (pairs l.ports) ≡ first_from l.i l.key (pairs (drop (l.i * 2) l.ports))

abbrev pub decreases-loop-i : goal.decreases-loop-i
decreases-loop-i l = length l.ports / 2 - l.i
