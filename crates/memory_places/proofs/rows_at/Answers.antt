-- `rows_at` meets its contract: the bit set, the rows are the two lists' and the anchor's, 64 at most, and else 0.
use Rattle.std.proofs.Common.{◌%◌}
use Rattle.memory.specs.Layout.{places}
use Rattle.memory_places.proofs.Loops.{rows_yes, rows_no}
use Rattle.memory_places.proofs.rows_at.Goals as goal

pub returns-then-word-eq1 : goal.returns-then-word-eq1
returns-then-word-eq1 c =
    let a = c.args in
    rows_yes _ a.m.now (a.place % places) _ _ c.if-word-eq1.true c.dependencies.ensures c.provisions.ensures

pub returns-else-word-eq1 : goal.returns-else-word-eq1
returns-else-word-eq1 c = rows_no _ c.args.m.now (c.args.place % places) c.if-word-eq1.false
