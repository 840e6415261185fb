-- `close_gap` meets its contract: to move the words from j on, over those moved so far, is to close the gap.
use Rattle.std.proofs.Common.{◌≡◌, ◌+◌, ◌*◌, ◌-◌, ◌≤◌}
use Rattle.memory.specs.Layout.{rows_start, row_words}
use Rattle.memory_rows.specs.Moves.{moved, closed_gap}
use Rattle.memory_rows.proofs.close_gap.Given as goal

abbrev pub invariant-loop-j : goal.invariant-loop-j
invariant-loop-j l =
    (l.start * row_words + rows_start ≤ l.j) × (closed_gap l.initial.m l.start l.count l.end ≡ moved (l.stop - l.j) l.m l.j l.k)
