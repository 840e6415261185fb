-- Every byte from the first place up to place i is a space.
use Rattle.std.proofs.Common.{arith}
use Rattle.console_words.proofs.Places.{spaces_end, spaces_stop, spaces_next}
use Rattle.console_words.proofs.past_spaces.Goals as goal

pub returns-then-line-i-ne32 : goal.returns-then-line-i-ne32
returns-then-line-i-ne32 c =
    let e = spaces_stop c.args.line.now c.loop-i.i (omega arith) (λ e. omega arith) in
    (omega arith, omega arith)

pub loop-i-preserved : goal.loop-i-preserved
loop-i-preserved c =
    let e = spaces_next c.args.line.now c.loop-i.i (omega arith) (omega arith) in
    omega arith

pub returns : goal.returns
returns c =
    let e = spaces_end c.args.line.now c.loop-i.i (omega arith) in
    (omega arith, omega arith)
