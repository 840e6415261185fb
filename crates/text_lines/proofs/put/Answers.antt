-- The bytes are laid whole, or none has a place, or one by one.
use Rattle.std.proofs.Common.{sym, arith}
use Rattle.text_lines.specs.Laid.{laid_past}
use Rattle.text_lines.proofs.put.Goals as goal

pub returns-then-text-at : goal.returns-then-text-at
returns-then-text-at c =
    record { place = c.behind-end.ensures; text = sym (laid_past c.args.text.now c.args.at _ (omega arith)); fits = omega arith }
