-- The claims before the chunks that are left have their bits.
use Rattle.std.proofs.Common.{◌≡◌}
use Rattle.std.specs.Slice.Iter.{chunks_exact_rest, chunks_exact_size}
use Rattle.rules.specs.Ports.{pairs}
use Rattle.memory_providers.specs.Providers.{no_bits, key_bits}
use Rattle.memory_providers.proofs.key_bits.Given as goal

abbrev pub invariant-loop-port : goal.invariant-loop-port
invariant-loop-port l =
    (chunks_exact_size l.port-iterator ≡ 2)
    × (key_bits no_bits (pairs l.claims) ≡ key_bits (record { low = l.low; high = l.high }) (pairs (chunks_exact_rest l.port-iterator)))
