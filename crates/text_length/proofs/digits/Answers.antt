-- No number has more than 20 digits.
use Rattle.std.proofs.Common.{arith}
use Rattle.text_form.specs.Numbers.{digits_most_20}
use Rattle.text_length.proofs.digits.Goals as goal

pub returns : goal.returns
returns c = (c.digit_count.ensures, omega (arith, digits_most_20 c.args.n (omega arith)))
