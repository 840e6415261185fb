-- `buffered` meets its contract: where the end is not behind the start there is nothing to say, and else `some_words` is the part between.
use Rattle.console_show.proofs.Laws.{none_between, some_between}
use Rattle.console_show.proofs.buffered.Goals as goal

pub returns-then-to-from : goal.returns-then-to-from
returns-then-to-from c = none_between c.args.from c.args.to c.args.buffer.now _ _ c.put.ensures c.if-to-from.true

pub returns : goal.returns
returns c =
    some_between c.args.from c.args.to c.args.buffer.now _ _ c.put.ensures _ _ c.some_words-some.ensures c.numbers.ensures
