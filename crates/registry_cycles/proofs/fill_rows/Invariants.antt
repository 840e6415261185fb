-- `fill_rows` meets its contract: the rows of the places before i are there, and these are served.
use Rattle.std.proofs.Common.{◌-◌, ◌≡◌}
use Rattle.memory.specs.Layout.{places}
use Rattle.registry_cycles.specs.Rows.{served_in}
use Rattle.registry_cycles.specs.Runs.{all_of}
use Rattle.registry_cycles.proofs.Rows.{Rows}
use Rattle.registry_cycles.proofs.fill_rows.Given as goal

abbrev pub invariant-loop-i : goal.invariant-loop-i
invariant-loop-i l =
    Rows l.m l.among l.rows l.i × (all_of (served_in l.m l.among) places 0 ≡ all_of (served_in l.m l.among) (places - l.i) l.i)
