-- Each line behind the other.
use Rattle.text_lines.specs.Laid.{laid_then}
use Rattle.text_block.specs.Parts.{life_lines}
use Rattle.text_block.proofs.life_lines.Goals as goal

pub returns : goal.returns
unfolding life_lines
returns c =
    let queue = laid_then c.number_line-queue.ensures c.root_lines.ensures in
    let payload = laid_then c.number_line-payload.ensures queue in
    let revision = laid_then c.number_line-revision.ensures payload in
    let generation = laid_then c.retired_line-generation.ensures revision in
    laid_then c.phase_line-retired.ensures generation
