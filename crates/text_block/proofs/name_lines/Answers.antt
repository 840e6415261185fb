-- The id, then the parent.
use Rattle.std.proofs.Common.{◌%◌}
use Rattle.memory.specs.Layout.{places}
use Rattle.memory.specs.View.{plugin_at}
use Rattle.text_lines.specs.Laid.{laid_then}
use Rattle.text_block.specs.Parts.{laid_as}
use Rattle.text_block.specs.Laws.{name_bytes}
use Rattle.text_block.proofs.name_lines.Goals as goal

pub returns : goal.returns
unfolding plugin_at
returns c =
    let a = c.args in
    laid_as
    (name_bytes a.m.now (a.place % places) c.id.ensures
    c.parent_of.ensures)
    (laid_then c.number_line-behind.ensures c.optional_line.ensures)
