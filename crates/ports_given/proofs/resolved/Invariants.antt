-- The ports before the chunks that are left have the realm their key resolves to.
use Rattle.std.proofs.Common.{◌≡◌}
use Rattle.std.specs.Slice.Iter.{chunks_exact_rest, chunks_exact_size}
use Rattle.rules.specs.Basics.{all}
use Rattle.rules.specs.Ports.{pairs}
use Rattle.rules.specs.Conditions.{resolved_in}
use Rattle.ports_realms.specs.Halving.{reached_with}
use Rattle.ports_given.proofs.resolved.Given as goal

abbrev pub invariant-loop-port : goal.invariant-loop-port
invariant-loop-port l =
    (chunks_exact_size l.port-iterator ≡ 2)
    × (all (resolved_in (reached_with l.other l.rows)) (pairs l.ports)
    ≡ all (resolved_in (reached_with l.other l.rows)) (pairs (chunks_exact_rest l.port-iterator)))
