-- The two stores, or none.
use Rattle.std.proofs.Common.{arith, ◌/◌, length, lt-ltb, le-ltb}
use Rattle.text_read_block.specs.Rows.{row_put}
use Rattle.text_read_block.proofs.put_row.Goals as goal

pub returns-then-i-into : goal.returns-then-i-into
unfolding row_put
returns-then-i-into c = let a = c.args in rw (lt-ltb a.row (length a.into.now / 2) (omega arith))

pub returns-else-i-into : goal.returns-else-i-into
unfolding row_put
returns-else-i-into c = let a = c.args in rw (le-ltb a.row (length a.into.now / 2) (omega arith))
