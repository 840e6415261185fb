-- The digits from place i on, behind the number so far, are those from the first place on.
use Rattle.std.proofs.Common.{◌-◌, ◌∙◌, get_or, arith}
use Rattle.text_read_number.specs.Numbers.{stop_at, value_to}
use Rattle.text_read_number.specs.Reads.{reads_torn}
use Rattle.text_read_number.proofs.Laws.{outside, value_end, value_stops, value_over, value_next, past, not_past, number_from}
use Rattle.text_read_number.proofs.digits.Goals as goal

pub returns-then-not-is_ascii_digit : goal.returns-then-not-is_ascii_digit
returns-then-not-is_ascii_digit c =
    let t = c.args.text.now in
    let stop = c.args.stop in
    let i = c.loop-i.i in
    let n = c.loop-i.n in
    number_from (stop_at stop n) (value_to stop c.args.value) t i c.args.from c.ended.ensures (omega arith) c.requires.inside
    (c.loop-i.invariant ∙ value_stops stop t i n (omega arith) (outside (get_or t i 0) c.if-not-is_ascii_digit.ensures.cases))

pub returns-then-is_past : goal.returns-then-is_past
returns-then-is_past c =
    let t = c.args.text.now in
    let i = c.loop-i.i in
    let n = c.loop-i.n in
    let digit = c.if-not-is_ascii_digit.ensures.cases in
    let over = value_over c.args.stop t i n (omega arith) digit.0 digit.1 c.requires.stops
    (omega (arith, past n (get_or t i 0 - 48) c.is_past.ensures c.if-is_past.true)) in
    reads_torn (value_to c.args.stop c.args.value) t c.args.from c.requires.inside (c.loop-i.invariant ∙ over)

pub loop-i-preserved : goal.loop-i-preserved
loop-i-preserved c =
    let t = c.args.text.now in
    let i = c.loop-i.i in
    let n = c.loop-i.n in
    let digit = c.if-not-is_ascii_digit.ensures.cases in
    c.loop-i.invariant
    ∙ value_next c.args.stop t i n (omega arith) digit.0 digit.1 c.requires.stops
    (omega (arith, not_past n (get_or t i 0 - 48) c.is_past.ensures c.if-is_past.false))

pub returns : goal.returns
returns c =
    let t = c.args.text.now in
    reads_torn (value_to c.args.stop c.args.value) t c.args.from c.requires.inside
    (c.loop-i.invariant ∙ value_end c.args.stop t c.loop-i.i c.loop-i.n (omega arith))
