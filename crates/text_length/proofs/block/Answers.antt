-- The parts together.
use Rattle.std.proofs.Common.{◌%◌, arith}
use Rattle.memory.specs.Layout.{places}
use Rattle.text_length.proofs.Laws.{block_length}
use Rattle.text_length.proofs.block.Goals as goal

pub returns : goal.returns
returns c =
    let a = c.args in
    omega (arith, block_length a.m.now (a.place % places) c.load.ensures)
