-- `free_place` meets its contract: in a taken place each call is a step of the definition, and a free place changes nothing.
use Rattle.memory_rows.proofs.free_place.Goals.{then-last-p, else-last-p}
use Rattle.std.proofs.Common.{◌%◌, sym, ◌∙◌}
use Rattle.memory.specs.Layout.{places}
use Rattle.memory_rows.specs.Laws.{free_moved, free_stays, free_steps, free_not}
use Rattle.memory_rows.proofs.free_place.Goals as goal
use Rattle.memory_rows.proofs.free_place.Goals.{then-last-p, else-last-p}

pub returns-after-last-p : goal.returns-after-last-p
returns-after-last-p c =
    let a = c.args in
    let y = sym c.is_taken.ensures ∙ c.if-is_taken.true in
    let s_is = c.start-start.ensures in
    let c_is = c.rows_of-count.ensures in
    let low = c.lower_starts-last.ensures.0 in
    let last = c.lower_starts-last.ensures.1 in
    free_steps a.m.now _ (a.place % places) _ _ _ y s_is c_is low last _ _
    (elim c.if-last-p.branch [
      | then-last-p w ↦
          free_moved a.m.now _ (a.place % places) _ _ _ y s_is c_is low last _ _ w.rows_of.ensures (w.m-is ∙ w.close_gap.ensures)
      | else-last-p w ↦ free_stays a.m.now _ (a.place % places) _ _ _ y s_is c_is low last _ w.if-last-p.false w.m-is
    ])
    c.vacate.ensures

pub returns-else-is_taken : goal.returns-else-is_taken
returns-else-is_taken c =
    let a = c.args in
    free_not a.m.now (a.place % places) (sym c.is_taken.ensures ∙ c.if-is_taken.false)
