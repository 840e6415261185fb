-- `rows_in_use` meets its contract: the rows so far and those of the places from 4k on are all rows, and the word is shifted by 4k.
use Rattle.std.proofs.Common.{◌-◌}
use Rattle.memory_places.proofs.Loops.{Counted}
use Rattle.memory_places.proofs.rows_in_use.Given as goal

abbrev pub invariant-loop-k : goal.invariant-loop-k
invariant-loop-k l = Counted l.m l.k l.word l.total
