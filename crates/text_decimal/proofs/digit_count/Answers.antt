-- The digits counted so far and those of what is left are the number's.
use Rattle.std.proofs.Common.{arith, rules}
use Rattle.text_form.specs.Writing.{digits_some, digits_four, digits_least, digits_exactly, digits_room}
use Rattle.text_decimal.proofs.digit_count.Goals as goal

pub loop-left-init : goal.loop-left-init
loop-left-init c = (omega arith, omega arith)

pub loop-left-preserved : goal.loop-left-preserved
loop-left-preserved c =
    let l = c.loop-left in
    let four = digits_four l.left c.loop-left-test.true in
    let most = digits_room c.args.n (search rules) in
    (omega arith, omega arith)

pub returns-then-left-lt10 : goal.returns-then-left-lt10
returns-then-left-lt10 c =
    let l = c.loop-left in
    let one = digits_exactly 1 l.left (digits_some l.left) (omega arith) c.if-left-lt10.true in
    omega arith

pub returns-then-left-lt100 : goal.returns-then-left-lt100
returns-then-left-lt100 c =
    let l = c.loop-left in
    let two = digits_exactly 2 l.left (digits_least 1 l.left (omega arith)) (omega arith) c.if-left-lt100.true in
    omega arith

pub returns-then-left-lt1000 : goal.returns-then-left-lt1000
returns-then-left-lt1000 c =
    let l = c.loop-left in
    let three = digits_exactly 3 l.left (digits_least 2 l.left (omega arith)) (omega arith) c.if-left-lt1000.true in
    omega arith

pub returns : goal.returns
returns c =
    let l = c.loop-left in
    let four = digits_exactly 4 l.left (digits_least 3 l.left (omega arith)) (omega arith) (omega arith) in
    omega arith
