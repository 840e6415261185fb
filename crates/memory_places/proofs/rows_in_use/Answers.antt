-- `rows_in_use` meets its contract: the rows so far and those of the places from 4k on are all rows, and the word is shifted by 4k.
use Rattle.std.proofs.Common.{sym, ◌∙◌, arith}
use Rattle.memory_places.proofs.Rows.{rows_view}
use Rattle.memory_places.proofs.Loops.{rows_begin, rows_next, rows_end_lem}
use Rattle.memory_places.proofs.rows_in_use.Goals as goal

pub loop-k-init : goal.loop-k-init
loop-k-init c = rows_begin _ _ c.occupied-word.ensures

pub rows_of_four-total-requires : goal.rows_of_four-total-requires
rows_of_four-total-requires c = (omega arith, c.loop-k.invariant.2)

pub loop-k-preserved : goal.loop-k-preserved
loop-k-preserved c = rows_next _ _ _ _ c.loop-k-test.true c.loop-k.invariant _ c.rows_of_four-total.ensures.0 c.rows_of_four-total.ensures.1

pub returns : goal.returns
returns c = rows_end_lem _ _ _ _ c.loop-k-test.false c.loop-k.invariant ∙ sym (rows_view c.args.m.now c.told-m)
