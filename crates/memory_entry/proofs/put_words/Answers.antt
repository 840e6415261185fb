-- `put_words` meets its contract: what is stored in the tail is stored in the whole, and past the end nothing is.
use Rattle.std.proofs.Common.{arith, sym}
use Rattle.memory_entry.proofs.Laws.{puts_past, tail_put}
use Rattle.memory_entry.proofs.put_words.Goals as goal

pub returns-then-from-m : goal.returns-then-from-m
returns-then-from-m c =
    let a = c.args in
    let w = c.put_front in
    tail_put a.m.now w.new.out a.words.now a.from (omega arith) w.ensures

pub returns-else-from-m : goal.returns-else-from-m
returns-else-from-m c =
    let a = c.args in
    sym (puts_past a.words.now a.m.now a.from 0 (omega arith))
