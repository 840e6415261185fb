-- The port is not among those behind the chunks that are left.
use Rattle.std.proofs.Common.{◌≡◌, ◌%◌, length}
use Rattle.std.specs.Slice.Exact.{rchunks_exact_rest, rchunks_exact_size}
use Rattle.rules.specs.Holds.{is_in}
use Rattle.rules.specs.Ports.{pairs}
use Rattle.ports.proofs.has_port.Given as goal

abbrev pub invariant-loop-pair : goal.invariant-loop-pair
invariant-loop-pair l =
    (rchunks_exact_size l.pair-iterator ≡ 2)
    × (length (rchunks_exact_rest l.pair-iterator) % 2 ≡ 0)
    × (is_in l.port (pairs l.ports) ≡ is_in l.port (pairs (rchunks_exact_rest l.pair-iterator)))
