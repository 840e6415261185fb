-- The name, then each value behind the other.
use Rattle.text_lines.specs.Laid.{laid_then}
use Rattle.text_lines.proofs.triple_line.Goals as goal

pub returns : goal.returns
returns c = laid_then c.put-first.ensures
    (laid_then c.number-second.ensures
    (laid_then c.number-third.ensures c.number_or_none.ensures))
