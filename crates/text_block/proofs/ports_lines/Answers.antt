-- The count, then the lines: a list of words has half as many ports.
use Rattle.text_lines.specs.Laid.{laid_then}
use Rattle.text_block.specs.Parts.{laid_as}
use Rattle.text_block.specs.Laws.{ports_bytes}
use Rattle.text_block.proofs.ports_lines.Goals as goal

pub returns : goal.returns
returns c =
    let a = c.args in
    laid_as
    (ports_bytes a.plural.now a.name.now a.ports.now)
    (laid_then c.number_line-behind.ensures c.port_lines.ensures)
