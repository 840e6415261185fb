-- Each line goes on where the one before it ends.
use Rattle.text_read_block.proofs.BlockLines.{head_said}
use Rattle.text_read_block.proofs.before_lists.Goals as goal

pub returns : goal.returns
returns c =
    head_said _ c.in_ok-id.ensures c.in_ok-parent.ensures c.in_ok-phase.ensures c.in_ok-retired.ensures c.in_ok-generation.ensures
    c.in_ok-revision.ensures c.in_ok-payload.ensures c.in_ok-root.ensures c.in_ok-anchor.ensures
