-- What is left to look at is available where all are, and what the table says is so.
use Rattle.std.proofs.Common.{◌≡◌}
use Rattle.std.specs.Slice.Iter.{chunks_exact_rest, chunks_exact_size}
use Rattle.rules.specs.Basics.{all}
use Rattle.rules.specs.Phases.{available}
use Rattle.rules.specs.Ports.{pairs}
use Rattle.memory.specs.View.{view}
use Rattle.memory_keys.specs.Known.{Known}
use Rattle.registry_needs.proofs.all_available.Given as goal

abbrev pub invariant-loop-pair : goal.invariant-loop-pair
invariant-loop-pair l =
    (chunks_exact_size l.pair-iterator ≡ 2) × Known l.m l.table
    × (all (available (view l.m)) (pairs l.list) ≡ all (available (view l.m)) (pairs (chunks_exact_rest l.pair-iterator)))
