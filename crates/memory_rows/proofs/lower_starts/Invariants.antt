-- `lower_starts` meets its contract: what is left from place i on, over what is lowered and told so far, is the whole.
use Rattle.std.proofs.Common.{◌≡◌, ◌-◌}
use Rattle.memory.specs.Layout.{places}
use Rattle.memory_rows.specs.Moves.{lower_from, last_from}
use Rattle.memory_rows.proofs.lower_starts.Given as goal

abbrev pub invariant-loop-i : goal.invariant-loop-i
invariant-loop-i l =
    (lower_from places l.initial.m l.end l.count 0 ≡ lower_from (places - l.i) l.m l.end l.count l.i)
    × (last_from places l.initial.m l.end 0 l.initial.last ≡ last_from (places - l.i) l.m l.end l.i l.last)
