-- `one_provided` meets its contract: with no bit in the occupancy word no place is taken, and else no place before i offers a claim.
use Rattle.std.proofs.Common.{◌-◌, ◌≡◌}
use Rattle.rules.specs.Ports.{pairs}
use Rattle.memory.specs.Layout.{places}
use Rattle.memory_providers.proofs.Claims.{one_from}
use Rattle.memory_providers.proofs.one_provided.Given as goal

abbrev pub invariant-loop-i : goal.invariant-loop-i
invariant-loop-i l = one_from (pairs l.claims) places l.m 0 ≡ one_from (pairs l.claims) (places - l.i) l.m l.i
