-- Either mark is laid as its call promises.
use Rattle.text_block.proofs.retired_line.Goals as goal

pub returns-then-retired : goal.returns-then-retired
returns-then-retired c = rw c.if-retired.true c.put.ensures

pub returns-else-retired : goal.returns-else-retired
returns-else-retired c = rw c.if-retired.false c.put-else-retired.ensures
