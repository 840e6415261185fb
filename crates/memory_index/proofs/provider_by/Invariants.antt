-- `provider_by` meets its contract: the bit that goes is that of a place that does not provide the port.
use Rattle.std.proofs.Common.{◌<◌, ◌^◌, ◌≡◌}
use Rattle.memory.specs.Layout.{places}
use Rattle.memory_index.specs.Index.{first_among, provider_by}
use Rattle.memory_index.proofs.provider_by.Given as goal

abbrev pub invariant-loop-left : goal.invariant-loop-left
invariant-loop-left l =
    (l.left < 2 ^ 32) × (provider_by l.memory l.index l.port ≡ first_among places l.memory l.left l.port 0)

abbrev pub decreases-loop-left : goal.decreases-loop-left
decreases-loop-left l = l.left
