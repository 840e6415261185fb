-- `same_id` meets its contract: no place before i has the id, so the search from i on finds what the whole one does.
use Rattle.std.proofs.Common.{◌≡◌, ◌-◌}
use Rattle.memory.specs.Layout.{places}
use Rattle.memory.specs.Writes.{find_at, find_from}
use Rattle.memory.proofs.same_id.Given as goal

abbrev pub invariant-loop-i : goal.invariant-loop-i
invariant-loop-i l = find_at l.m l.id ≡ find_from (places - l.i) l.m l.id l.i
