-- `shown` meets its contract: a refused parent is the refusal, and else each field is put behind the last, as it is told.
use Rattle.std.proofs.Common.{refl, sym, ◌∙◌}
use Rattle.rules.specs.Queries.{Parent, Anchor}
use Rattle.console_show.proofs.Fields.{length_told, field_said, all_shown, refusal_shown}
use Rattle.console_show.proofs.shown.Goals as goal

pub returns-then-status-ne0 : goal.returns-then-status-ne0
returns-then-status-ne0 c =
    refusal_shown c.args.m.now c.args.id _ _ _ _ c.vaskelbi_parent-status.ensures c.if-status-ne0.true c.told.ensures

pub life-requires : goal.life-requires
life-requires c = sym c.vaskelbi_parent-status.ensures.0 ∙ c.if-status-ne0.false

pub root-requires : goal.root-requires
root-requires c = sym c.vaskelbi_parent-status.ensures.0 ∙ c.if-status-ne0.false

pub returns : goal.returns
returns c =
    let m = c.args.m.now in
    let id = c.args.id in
    let heard = c.vaskelbi_parent-status.ensures in
    let k = sym heard.0 ∙ c.if-status-ne0.false in
    all_shown m id k _ _ _ refl heard _ _ _ _ _ _ c.put.ensures c.answer_or_none.ensures c.life.ensures c.root.ensures
    (field_said m id k Anchor _ _ _ (length_told m id k Parent _ _ _ refl heard) c.vaskelbi_anchor.ensures _ _ c.answer.ensures)
