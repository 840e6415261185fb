-- The part is as long as the count says, and what `write_digits` wrote stands there.
use Rattle.text_form.specs.Writing.{written_part}
use Rattle.text_decimal.proofs.write_decimal.Goals as goal

pub returns : goal.returns
returns c = written_part c.args.n c.args.scratch.now _ _ c.write_digits-count.ensures
