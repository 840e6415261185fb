-- Until the port is found, its place is that of the first in the rest, counted from i.
use Rattle.std.proofs.Common.{◌-◌, ◌*◌, ◌/◌, ◌≡◌, length, drop}
use Rattle.rules.specs.Holds.{port}
use Rattle.rules.specs.Ports.{pairs}
use Rattle.memory_values.specs.Values.{port_from}
use Rattle.memory_values.proofs.place_of.Given as goal

abbrev pub invariant-loop-i : goal.invariant-loop-i
invariant-loop-i l = port_from 0 l.port (pairs l.list) ≡ port_from l.i l.port (pairs (drop (l.i * 2) l.list))
