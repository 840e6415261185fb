-- No port before the chunks that are left is claimed.
use Rattle.std.proofs.Common.{◌≡◌}
use Rattle.std.specs.Slice.Iter.{chunks_exact_rest, chunks_exact_size}
use Rattle.rules.specs.Basics.{any}
use Rattle.rules.specs.Ports.{pairs}
use Rattle.memory_providers.specs.Providers.{wanted}
use Rattle.memory_providers.proofs.meets.Given as goal

abbrev pub invariant-loop-pair : goal.invariant-loop-pair
invariant-loop-pair l =
    (chunks_exact_size l.pair-iterator ≡ 2)
    × (any (λ q. wanted l.bits (pairs l.claims) q) (pairs l.offered)
    ≡ any (λ q. wanted l.bits (pairs l.claims) q) (pairs (chunks_exact_rest l.pair-iterator)))
