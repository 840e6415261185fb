-- The ports of the keys from i on are still to be stored.
use Rattle.std.proofs.Common.{◌≡◌, map, take, drop}
use Rattle.rules.specs.Ports.{pairs, resolve_in}
use Rattle.rules.specs.Limits.{max_dependency_keys}
use Rattle.ports_realms.specs.Halving.{reached}
use Rattle.ports_resolved.specs.Keys.{declared_of}
use Rattle.ports_resolved.specs.Stored.{stored}
use Rattle.ports_resolved.proofs.declared.Given as goal

abbrev pub invariant-loop-i : goal.invariant-loop-i
invariant-loop-i l =
    stored l.initial.list 0 (declared_of l.other (reached (pairs l.rows)) l.keys)
    ≡ stored l.list l.i (map (resolve_in l.other (reached (pairs l.rows))) (drop l.i (take max_dependency_keys l.keys)))
