-- `fill_rows` meets its contract: the rows of the places before i are there, and these are served.
use Rattle.std.proofs.Common.{refl, sym, ◌∙◌, true≢false}
use Rattle.registry_cycles.proofs.Laws.{all_next, all_not, all_end}
use Rattle.registry_cycles.proofs.Rows.{row_is, row_not, rows_begin, rows_next, rows_end_lem}
use Rattle.registry_cycles.proofs.fill_rows.Goals as goal

pub loop-i-init : goal.loop-i-init
loop-i-init c = (rows_begin _ _ _ c.told-rows, refl)

pub returns-in_default : goal.returns-in_default
returns-in_default c =
    let a = c.args in
    let n = row_not a.m.now a.among c.loop-i.i (sym c.in_default.is ∙ rw c.new-index.ensures.memory at c.row_at.ensures) in
    (sym (c.loop-i.invariant.1 ∙ all_not _ _ c.loop-i-test.true n), λ y. absurd (true≢false (sym y)))

pub loop-i-preserved : goal.loop-i-preserved
loop-i-preserved c =
    let l = c.loop-i-test.true in
    let a = c.args in
    let x = row_is a.m.now a.among c.loop-i.i _ (sym c.in-Some.is ∙ rw c.new-index.ensures.memory at c.row_at.ensures) in
    (rows_next _ _ _ _ l c.loop-i.invariant.0 _ x.1, c.loop-i.invariant.1 ∙ all_next _ _ l x.0)

pub returns : goal.returns
returns c =
    (sym (c.loop-i.invariant.1 ∙ all_end _ _ c.loop-i-test.false), λ y. rows_end_lem _ _ _ _ c.loop-i-test.false c.loop-i.invariant.0)
