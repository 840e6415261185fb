-- The byte is stored, or there is no place for it.
use Rattle.std.proofs.Common.{sym, arith}
use Rattle.text_lines.specs.Laid.{laid_byte, laid_past}
use Rattle.text_lines.proofs.put_byte.Goals as goal

pub returns-then-at-text : goal.returns-then-at-text
returns-then-at-text c =
    record { place = omega arith; text = sym (laid_byte c.args.text.now c.args.at c.args.byte); fits = omega arith }

pub returns : goal.returns
returns c =
    record { place = c.behind.ensures; text = sym (laid_past c.args.text.now c.args.at _ (omega arith)); fits = omega arith }
