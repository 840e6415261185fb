-- The lines counted so far and those that are left are all of them.
use Rattle.std.proofs.Common.{◌+◌, ◌*◌, ◌%◌, ◌≤◌, ◌≡◌, length}
use Rattle.memory.specs.Layout.{places}
use Rattle.memory.specs.View.{plugin_at}
use Rattle.text_block.specs.Parts.{provisions_lines}
use Rattle.text_block.specs.Laws.{provs_from}
use Rattle.text_length.proofs.provision_lines.Given as goal

abbrev pub invariant-loop-j : goal.invariant-loop-j
invariant-loop-j l =
    (l.total ≤ 27 + 68 * l.j)
    × (l.total + length (provs_from l.m (l.place % places) l.j l.words) ≡ length (provisions_lines (plugin_at l.m (l.place % places)).provisions))
