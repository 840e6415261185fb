-- A short scratch stays; in another a number below 10 is its one digit, and the counted digits of any other are filled in: at most 20.
use Rattle.std.proofs.Common.{sym, ap, arith, length, ◌<◌, ◌^◌, rules}
use Rattle.text_form.specs.Writing.{digits_one, digits_room, first_stored, too_short, long_enough}
use Rattle.text_decimal.proofs.write_digits.Goals as goal

pub returns-then-scratch-lt20 : goal.returns-then-scratch-lt20
returns-then-scratch-lt20 c = too_short c.args.n c.args.scratch.now (omega arith)

pub returns-then-n-lt10 : goal.returns-then-n-lt10
returns-then-n-lt10 c =
    let n = c.args.n in
    let scratch = c.args.scratch.now in
    long_enough n scratch _ _ (omega arith) (sym (ap length (digits_one n c.if-n-lt10.true))) (sym (first_stored n scratch c.if-n-lt10.true (omega arith)))

pub fill-requires : goal.fill-requires
fill-requires c =
    let fits : c.args.n < 2 ^ 64 = search rules in
    record { digits = c.digit_count-count.ensures; room = omega (arith, c.digit_count-count.ensures, digits_room c.args.n fits) }

pub returns : goal.returns
returns c = long_enough c.args.n c.args.scratch.now _ _ (omega arith) c.digit_count-count.ensures c.fill.ensures
