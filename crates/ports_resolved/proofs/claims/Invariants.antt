-- The anchor and the ports of the first i keys stand in front.
use Rattle.std.proofs.Common.{◌+◌, ◌++◌, map, take}
use Rattle.rules.specs.Ports.{pairs, resolve_in}
use Rattle.ports_realms.specs.Halving.{reached}
use Rattle.ports_resolved.specs.Keys.{claim_room}
use Rattle.ports_resolved.specs.Filled.{Lists}
use Rattle.ports_resolved.proofs.claims.Given as goal

abbrev pub invariant-loop-i : goal.invariant-loop-i
invariant-loop-i l =
    Lists claim_room (l.i + 1) l.list (pairs (take 2 l.initial.list) ++ map (resolve_in l.other (reached (pairs l.rows))) (take l.i l.keys))
