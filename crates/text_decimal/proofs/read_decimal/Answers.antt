-- `read_decimal` meets its contract: no byte, one byte, a leading zero and any other word are the definition's cases.
use Rattle.std.proofs.Common.{arith, sym, ◌∙◌}
use Rattle.text_form.specs.Reading.{number_empty, number_one, number_zero, number_more}
use Rattle.text_decimal.proofs.read_decimal.Goals as goal

pub returns-then-word-eq0 : goal.returns-then-word-eq0
returns-then-word-eq0 c = sym (number_empty c.args.word.now c.if-word-eq0.true)

pub returns-then-word-eq1 : goal.returns-then-word-eq1
returns-then-word-eq1 c = c.read_digits.ensures ∙ sym (number_one c.args.word.now (omega arith))

pub returns-then-leading_zero : goal.returns-then-leading_zero
returns-then-leading_zero c = sym (number_zero c.args.word.now (omega arith) (omega arith))

pub returns : goal.returns
returns c = c.read_digits-2.ensures ∙ sym
    (number_more c.args.word.now (omega arith) c.if-leading_zero.false)
