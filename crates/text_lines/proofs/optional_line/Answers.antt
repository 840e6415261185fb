-- The name, then the value.
use Rattle.text_lines.specs.Laid.{laid_then}
use Rattle.text_lines.proofs.optional_line.Goals as goal

pub returns : goal.returns
returns c = laid_then c.put-place.ensures c.number_or_none.ensures
