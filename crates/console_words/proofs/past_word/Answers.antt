-- No byte from the first place up to place i is a space.
use Rattle.std.proofs.Common.{arith}
use Rattle.console_words.proofs.Places.{word_end, word_stop, word_next}
use Rattle.console_words.proofs.past_word.Goals as goal

pub returns-then-space : goal.returns-then-space
returns-then-space c =
    let e = word_stop c.args.line.now c.loop-i.i (omega arith) (omega arith) in
    (omega arith, omega arith)

pub loop-i-preserved : goal.loop-i-preserved
loop-i-preserved c =
    let e = word_next c.args.line.now c.loop-i.i (omega arith) (λ e. omega arith) in
    omega arith

pub returns : goal.returns
returns c =
    let e = word_end c.args.line.now c.loop-i.i (omega arith) in
    (omega arith, omega arith)
