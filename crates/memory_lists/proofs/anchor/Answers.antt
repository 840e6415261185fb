-- `anchor` meets its contract.
use Rattle.std.proofs.Common.{◌%◌}
use Rattle.memory.specs.Layout.{places}
use Rattle.memory_lists.proofs.Lists.{anchor_words}
use Rattle.memory_lists.proofs.anchor.Goals as goal

pub returns : goal.returns
returns c =
    let a = c.args in
    anchor_words a.m.now (a.place % places) _ _ _ c.start.ensures c.dependencies.ensures
    c.new.ensures
