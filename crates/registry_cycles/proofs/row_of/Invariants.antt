-- `row_of` meets its contract: the ports before those left are served, and their providers are in the row.
use Rattle.std.proofs.Common.{◌≡◌}
use Rattle.std.specs.Slice.Iter.{chunks_exact_rest, chunks_exact_size}
use Rattle.rules.specs.Ports.{pairs}
use Rattle.registry_cycles.proofs.Ports.{Rowed}
use Rattle.registry_cycles.proofs.row_of.Given as goal

abbrev pub invariant-loop-pair : goal.invariant-loop-pair
invariant-loop-pair l =
    (chunks_exact_size l.pair-iterator ≡ 2) × Rowed l.index.memory.now (pairs l.ports) (pairs (chunks_exact_rest l.pair-iterator)) l.row
