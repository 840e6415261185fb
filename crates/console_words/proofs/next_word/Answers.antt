-- `next_word` meets its contract: past the end there is no word, and else the two calls give where it starts and where it stops.
use Rattle.std.proofs.Common.{arith}
use Rattle.console_words.proofs.Places.{none_left, one_word}
use Rattle.console_words.proofs.next_word.Goals as goal

pub returns-then-end-from : goal.returns-then-end-from
returns-then-end-from c = none_left c.args.line.now c.args.from (omega arith)

pub returns : goal.returns
returns c =
    one_word c.args.line.now c.args.from c.past_spaces-start.result c.past_word-stop.result (omega arith) c.past_spaces-start.ensures.0
    c.past_word-stop.ensures.0 c.past_word-stop.ensures.1
