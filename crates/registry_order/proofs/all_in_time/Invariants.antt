-- Each port before the chunks that are left is provided in time.
use Rattle.std.proofs.Common.{◌≡◌}
use Rattle.std.specs.Slice.Iter.{chunks_exact_rest, chunks_exact_size}
use Rattle.rules.specs.Basics.{all}
use Rattle.rules.specs.Orders.{in_time}
use Rattle.rules.specs.Ports.{pairs}
use Rattle.memory.specs.View.{view}
use Rattle.registry_order.proofs.all_in_time.Given as goal

abbrev pub invariant-loop-pair : goal.invariant-loop-pair
invariant-loop-pair l =
    (chunks_exact_size l.pair-iterator ≡ 2)
    × (all (in_time (view l.index.memory.now) l.before) (pairs l.list) ≡ all (in_time (view l.index.memory.now) l.before) (pairs (chunks_exact_rest l.pair-iterator)))
