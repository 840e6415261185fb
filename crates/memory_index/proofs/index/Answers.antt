-- `index` meets its contract: the places from i on, noted in the index so far, give the whole.
use Rattle.std.proofs.Common.{refl, sym, ◌∙◌}
use Rattle.memory_index.specs.Index.{index_of}
use Rattle.memory_index.proofs.Laws.{index_taken, index_free, index_end}
use Rattle.memory_index.proofs.index.Goals as goal
use Rattle.memory_index.proofs.index.Goals.{then-is_taken, else-is_taken}

pub loop-i-init : goal.loop-i-init
unfolding index_of
loop-i-init c = refl

pub loop-i-preserved : goal.loop-i-preserved
loop-i-preserved c =
    let l = c.loop-i-test.true in
    let k = c.is_taken.ensures in
    c.loop-i.invariant ∙ (elim c.if-is_taken.branch [
      | then-is_taken w ↦ index_taken _ _ _ l (sym k ∙ w.if-is_taken.true) w.offered_words.ensures (w.words-is ∙ w.note.ensures)
      | else-is_taken w ↦ index_free _ _ _ l (sym k ∙ w.if-is_taken.false) w.words-is
    ])

pub returns : goal.returns
returns c = sym (c.loop-i.invariant ∙ index_end _ _ _ c.loop-i-test.false)
