-- The digits from the index on, behind the number so far, are the whole word's.
use Rattle.std.proofs.Common.{sym, ◌∙◌, arith, ⊎_elim}
use Rattle.text_form.specs.Reading.{value_end, value_low, value_high, value_over, value_next}
use Rattle.text_decimal.proofs.read_digits.Goals as goal

pub returns-then-not-is_ascii_digit : goal.returns-then-not-is_ascii_digit
returns-then-not-is_ascii_digit c =
    let l = c.loop-byte in
    let none_of = ⊎_elim (value_low c.args.word.now l.byte-index l.n (omega arith)) (value_high c.args.word.now l.byte-index l.n (omega arith)) in
    sym (l.invariant ∙ none_of c.if-not-is_ascii_digit.ensures.cases)

pub returns-then-digit-n : goal.returns-then-digit-n
returns-then-digit-n c = sym (c.loop-byte.invariant ∙ value_over c.args.word.now c.loop-byte.byte-index c.loop-byte.n (omega arith) (omega arith))

pub loop-byte-preserved : goal.loop-byte-preserved
loop-byte-preserved c =
    let digit = c.if-not-is_ascii_digit.ensures.cases in
    c.loop-byte.invariant ∙ value_next c.args.word.now c.loop-byte.byte-index c.loop-byte.n (omega arith) digit.0 digit.1 (omega arith)

pub returns : goal.returns
returns c = sym (c.loop-byte.invariant ∙ value_end c.args.word.now c.loop-byte.byte-index c.loop-byte.n (omega arith))
