-- The parts one behind the other.
use Rattle.std.proofs.Common.{◌%◌}
use Rattle.memory.specs.Layout.{places}
use Rattle.text_lines.specs.Laid.{laid_then}
use Rattle.text_block.specs.Parts.{laid_as}
use Rattle.text_block.specs.Laws.{block_bytes}
use Rattle.text_block.proofs.block.Goals as goal

pub returns : goal.returns
returns c =
    let a = c.args in
    let lists = laid_then c.list_lines-provisions.ensures c.provision_lines.ensures in
    let life = laid_then c.life_lines-lists.ensures lists in
    laid_as (block_bytes a.m.now (a.place % places)
    c.load.ensures)
    (laid_then c.name_lines-life.ensures life)
