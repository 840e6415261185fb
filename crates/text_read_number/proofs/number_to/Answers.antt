-- The first byte says how the number goes on.
use Rattle.std.proofs.Common.{◌+◌, ◌-◌, arith, sym, ◌∙◌, get_or}
use Rattle.text_form.specs.Numbers.{read_number}
use Rattle.text_read_number.specs.Numbers.{stop_at, value_to}
use Rattle.text_read_number.specs.Reads.{reads_empty, reads_torn}
use Rattle.text_read_number.proofs.Laws.{outside, number_none, number_not, number_zero, number_digit, number_from}
use Rattle.text_read_number.proofs.number_to.Goals as goal

pub returns-in_err-byte : goal.returns-in_err-byte
returns-in_err-byte c =
    rw c.from_residual.ensures (reads_empty (read_number c.args.stop) c.args.text.now c.args.at (omega (arith, c.in_err-byte.ensures.lookup.3)) (number_none c.args.stop))

pub returns-then-not-is_ascii_digit : goal.returns-then-not-is_ascii_digit
returns-then-not-is_ascii_digit c =
    let t = c.args.text.now in
    let i = c.args.at in
    let here = c.in_ok-byte.ensures.lookup in
    let other = rw (here.4 (omega arith) 0) at c.if-not-is_ascii_digit.ensures.cases in
    reads_torn (read_number c.args.stop) t i (omega (arith, here.3.0)) (number_not c.args.stop t i here.3.0 (outside (get_or t i 0) other))

pub returns-then-byte-eq-ZERO : goal.returns-then-byte-eq-ZERO
returns-then-byte-eq-ZERO c =
    let t = c.args.text.now in
    let stop = c.args.stop in
    let i = c.args.at in
    let here = c.in_ok-byte.ensures.lookup in
    let digit = rw (here.4 (omega arith) 0) at c.if-not-is_ascii_digit.ensures.cases in
    number_from (stop_at stop 0) (read_number stop) t (i + 1) i c.ended.ensures (omega (arith, here.3.0)) (omega (arith, here.3.0))
    (number_zero stop t i here.3.0 digit.0 digit.1 c.requires (sym (here.4 (omega arith) 0) ∙ c.if-byte-eq-ZERO.true))

pub returns : goal.returns
returns c =
    let t = c.args.text.now in
    let stop = c.args.stop in
    let i = c.args.at in
    let here = c.in_ok-byte.ensures.lookup in
    let byte = here.4 (omega arith) 0 in
    let digit = rw byte at c.if-not-is_ascii_digit.ensures.cases in
    let more = number_digit stop t i here.3.0 digit.0 digit.1 c.requires (λ e. c.if-byte-eq-ZERO.false (byte ∙ e)) in
    number_from (value_to stop (get_or t i 0 - 48)) (read_number stop) t (i + 1) i (rw byte at c.digits.ensures) (omega (arith, here.3.0)) (omega (arith, here.3.0)) more
