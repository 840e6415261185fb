-- One number behind the other.
use Rattle.text_lines.specs.Laid.{laid_then}
use Rattle.text_lines.proofs.number_pair.Goals as goal

pub returns : goal.returns
returns c = laid_then c.number-second.ensures c.number.ensures
