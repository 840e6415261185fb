-- Edition and default, then the rows.
use Rattle.text_lines.specs.Laid.{laid_then}
use Rattle.text_block.specs.Parts.{laid_as}
use Rattle.text_block.specs.Laws.{realm_bytes}
use Rattle.text_block.proofs.realm_lines.Goals as goal

pub returns : goal.returns
returns c =
    let a = c.args in
    laid_as (realm_bytes a.list.now c.edition.ensures c.rows.ensures)
    (laid_then c.edition_lines-behind.ensures c.ports_lines.ensures)
