-- `id_from` meets its contract: the lowest so far and the ids of the places from i on have the lowest of all; the last id of all is looked up.
use Rattle.std.proofs.Common.{◌-◌}
use Rattle.memory.specs.Layout.{places}
use Rattle.memory_places.proofs.Loops.{Passed}
use Rattle.memory_places.proofs.id_from.Given as goal

abbrev pub invariant-loop-i : goal.invariant-loop-i
invariant-loop-i l = Passed l.number l.m l.i l.lowest
