-- `find_from` meets its contract: the search from place i on finds what the whole one does.
use Rattle.std.proofs.Common.{◌≡◌, ◌-◌}
use Rattle.memory.specs.Writes.{find_from}
use Rattle.memory.specs.Layout.{places}
use Rattle.memory.proofs.find_from.Given as goal

abbrev pub invariant-loop-i : goal.invariant-loop-i
invariant-loop-i l = find_from (places - l.from) l.m l.id l.from ≡ find_from (places - l.i) l.m l.id l.i
