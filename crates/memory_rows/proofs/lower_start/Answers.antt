-- `lower_start` meets its contract: a start behind the gap is lowered, and any other is what already stands there; the last is by cases.
use Rattle.std.proofs.Common.{sym}
use lib.Seq.{set-get_or}
use Rattle.memory_rows.specs.Laws.{lowered_here, later_free, later_not, later_here}
use borrow.Author.Tests.{lt-leb}
use Rattle.memory_rows.proofs.lower_start.Goals as goal

pub returns-then-start-end : goal.returns-then-start-end
returns-then-start-end c = (rw (lt-leb _ _ c.if-start-end.true) (sym (set-get_or _ _ _)), rw (lt-leb _ _ c.if-start-end.true))

pub returns-then-last-start : goal.returns-then-last-start
returns-then-last-start c =
    let a = c.args in (
      lowered_here a.m.now a.end a.count a.place a.last c.if-start-end.false,
      later_here a.m.now a.end a.count a.place a.last c.if-start-end.false _ c.is_taken.ensures c.if-is_taken.true c.if-last-start.true,
    )

pub returns-else-last-start : goal.returns-else-last-start
returns-else-last-start c =
    let a = c.args in (
      lowered_here a.m.now a.end a.count a.place a.last c.if-start-end.false,
      later_not a.m.now a.end a.count a.place a.last c.if-start-end.false _ c.is_taken.ensures c.if-is_taken.true c.if-last-start.false,
    )

pub returns-else-is_taken : goal.returns-else-is_taken
returns-else-is_taken c =
    let a = c.args in (
      lowered_here a.m.now a.end a.count a.place a.last c.if-start-end.false,
      later_free a.m.now a.end a.count a.place a.last c.if-start-end.false _ c.is_taken.ensures c.if-is_taken.false,
    )
