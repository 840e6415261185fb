-- `note` meets its contract: from the last row to the first.
use Rattle.std.proofs.Common.{arith, ◌≡◌, refl}
use Rattle.memory_index.proofs.Laws.{noted_none, noted_next}
use Rattle.memory_index.proofs.note.Goals as goal

pub loop-row-init : goal.loop-row-init
loop-row-init c = noted_none _ _ _ _ (omega arith) (omega arith)

pub offset_bounds-index-at : goal.offset_bounds-index-at
offset_bounds-index-at c = record { fits = omega (arith, c.word_for-at.ensures.1) }

pub bounds-index-at : goal.bounds-index-at
bounds-index-at c = c.word_for-at.ensures.1

pub offset_bounds-index-at-in-loop-row : goal.offset_bounds-index-at-in-loop-row
offset_bounds-index-at-in-loop-row c = record { fits = omega (arith, c.word_for-at.ensures.1) }

pub bounds-index-at-in-loop-row : goal.bounds-index-at-in-loop-row
bounds-index-at-in-loop-row c = c.word_for-at.ensures.1

pub loop-row-preserved : goal.loop-row-preserved
loop-row-preserved c = noted_next _ _ _ _ _ c.loop-row.invariant c.loop-row-test.true _ _ c.word_for-at.ensures.0 refl

pub returns : goal.returns
returns c =
    let e : c.loop-row.row ≡ 0 = omega arith in
    rw e at c.loop-row.invariant.1
