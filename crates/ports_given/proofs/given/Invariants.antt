-- The list is given exactly if it is given from the keys of its first ports, at most as many as are left to try.
use Rattle.std.proofs.Common.{◌≡◌}
use Rattle.rules.specs.Ports.{pairs}
use Rattle.rules.specs.Conditions.{given_within}
use Rattle.rules.specs.Limits.{max_dependency_keys}
use Rattle.ports_realms.specs.Halving.{reached_with}
use Rattle.ports_given.proofs.given.Given as goal

abbrev pub invariant-loop-count : goal.invariant-loop-count
invariant-loop-count l =
    given_within max_dependency_keys (reached_with l.other l.rows) (pairs l.provisions) l.anchor (pairs l.parents) (pairs l.list)
    ≡ given_within l.count (reached_with l.other l.rows) (pairs l.provisions) l.anchor (pairs l.parents) (pairs l.list)
