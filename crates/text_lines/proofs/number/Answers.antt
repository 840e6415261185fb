-- The part of the scratch is the number's digits, and the ending byte is laid behind them. Past the end, the digits are counted.
use Rattle.std.proofs.Common.{sym, [], ◌∷◌, arith, length-append, rules}
use Rattle.text_form.specs.Digits.{decimal_of}
use Rattle.text_form.specs.Writing.{digits_room}
use Rattle.text_lines.specs.Laid.{laid_past, laid_then}
use Rattle.text_lines.proofs.Laws.{one_laid}
use Rattle.text_lines.proofs.number.Goals as goal

pub overflow_add-digit_count : goal.overflow_add-digit_count
overflow_add-digit_count c = omega (arith, c.digit_count.ensures, digits_room c.args.n (search rules))

pub returns-then-text-at : goal.returns-then-text-at
returns-then-text-at c =
    let n = c.args.n in
    let count = c.digit_count.ensures in
    let long = length-append (decimal_of n) (c.args.end ∷ []) in
    record { place = omega (arith, c.behind.ensures); text = sym (laid_past c.args.text.now c.args.at _ (omega arith)); fits = omega arith }

pub returns-then-digits-eq1 : goal.returns-then-digits-eq1
returns-then-digits-eq1 c =
    let told = c.write_decimal-digits.ensures in
    let one = c.if-digits-eq1.true in
    laid_then (one_laid told one c.put_byte-place.ensures) c.put_byte.ensures

pub returns-then-digits-lt5 : goal.returns-then-digits-lt5
returns-then-digits-lt5 c =
    let told = c.write_decimal-digits.ensures in
    laid_then (rw told at c.put_each-place.ensures) c.put_byte-then-digits-lt5.ensures

pub returns : goal.returns
returns c =
    let told = c.write_decimal-digits.ensures in
    laid_then (rw told at c.put-place.ensures) c.put_byte-2.ensures
