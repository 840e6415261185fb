-- `close_gap` meets its contract: to move the words from j on, over those moved so far, is to close the gap.
use Rattle.std.proofs.Common.{sym, ◌∙◌, arith}
use Rattle.memory_rows.specs.Laws.{moved_next, moved_end, gap_none, gap_start}
use Rattle.memory_rows.proofs.close_gap.Goals as goal

pub returns-then-end-start : goal.returns-then-end-start
returns-then-end-start c = sym (gap_none _ _ _ _ (omega arith))

pub loop-j-init : goal.loop-j-init
loop-j-init c = (omega arith, gap_start _ _ _ _ (omega arith))

pub loop-j-preserved : goal.loop-j-preserved
loop-j-preserved c = (omega arith, c.loop-j.invariant.1 ∙ moved_next _ _ _ _ (omega arith))

pub returns : goal.returns
returns c = sym (c.loop-j.invariant.1 ∙ moved_end _ _ _ _ (omega arith))
