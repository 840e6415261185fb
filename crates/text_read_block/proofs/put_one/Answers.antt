-- The store, or none.
use Rattle.std.proofs.Common.{arith, length, lt-ltb, le-ltb}
use Rattle.text_read_block.specs.Rows.{one_put}
use Rattle.text_read_block.proofs.put_one.Goals as goal

pub returns-then-i-into : goal.returns-then-i-into
unfolding one_put
returns-then-i-into c = let a = c.args in rw (lt-ltb a.place (length a.into.now) (omega arith))

pub returns-else-i-into : goal.returns-else-i-into
unfolding one_put
returns-else-i-into c = let a = c.args in rw (le-ltb a.place (length a.into.now) (omega arith))
