-- The block is read into the lent words, and what is done with it is done with its plugin.
use Rattle.registry_load.specs.Join.{join_torn, join_read}
use Rattle.registry_load.proofs.join.Goals as goal

pub returns-in_err-b : goal.returns-in_err-b
returns-in_err-b c =
    let a = c.args in
    rw c.from_residual.ensures (join_torn a.text.now a.so_far.next a.w.now a.place a.so_far.from a.next a.so_far.rows a.lists.now c.in_err-b.ensures _)

pub returns : goal.returns
returns c =
    let a = c.args in
    join_read a.text.now a.so_far.next a.w.now a.place a.so_far.from a.next a.so_far.rows a.lists.now c.rooms.ensures c.requires c.in_ok-b.ensures
    (rw c.of.ensures at c.join.ensures)
