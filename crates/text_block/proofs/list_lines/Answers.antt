-- The anchor, then the realm list, then the dependencies, as the words have them.
use Rattle.std.proofs.Common.{◌%◌}
use Rattle.memory.specs.Layout.{places}
use Rattle.text_lines.specs.Laid.{laid_then}
use Rattle.text_block.specs.Parts.{laid_as}
use Rattle.text_block.specs.Laws.{list_bytes}
use Rattle.text_block.proofs.list_lines.Goals as goal

pub returns : goal.returns
returns c =
    let a = c.args in
    laid_as
    (list_bytes a.m.now (a.place % places) c.anchor-anchor.ensures c.realm_words.ensures c.dependency_words.ensures)
    (laid_then c.pair_line-realms.ensures (laid_then c.realm_lines-deps.ensures c.ports_lines.ensures))
