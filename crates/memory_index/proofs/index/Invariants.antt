-- `index` meets its contract: the places from i on, noted in the index so far, give the whole.
use Rattle.std.proofs.Common.{◌-◌, ◌≡◌}
use Rattle.memory.specs.Layout.{places}
use Rattle.memory_index.specs.Index.{index_from, index_of}
use Rattle.memory_index.proofs.index.Given as goal

abbrev pub invariant-loop-i : goal.invariant-loop-i
invariant-loop-i l =
    index_of l.memory ≡ index_from (places - l.i) l.memory l.words l.i
