-- `finish` meets its contract: each return is a case of the rule.
use Rattle.std.proofs.Common.{sym, ◌∙◌, []}
use Rattle.rules.specs.Refusals.{Unknown}
use Rattle.rules.specs.Phases as rules
use Rattle.memory.specs.Known.{none_known}
use Rattle.memory.specs.Ways.{meets_refused}
use Rattle.memory_life.specs.Told.{handed_none}
use Rattle.registry_ready_finish.specs.Laws.{finish_stuck, finish_told}
use Rattle.registry_ready_finish.proofs.finish.Goals as goal

pub returns-in_default : goal.returns-in_default
unfolding rules.finish
returns-in_default c = meets_refused _ _ _ Unknown [] (none_known _ _ (sym c.find.ensures ∙ c.in_default.is) _)

pub returns-in_err-next : goal.returns-in_err-next
returns-in_err-next c =
    let n = c.in_err-next.ensures in
    handed_none _ _ _ _ _ _ _ _ c.from_residual.ensures.1 n.value n.ok_part
    (finish_stuck _ _ _ (sym c.find.ensures ∙ c.in-Some.is) _ c.load-life.ensures (sym c.next.ensures ∙ n.ok_part))

pub returns : goal.returns
returns c =
    let f = sym c.next.ensures ∙ c.in_ok-next.ensures.ok_part in
    finish_told _ _ _ (sym c.find.ensures ∙ c.in-Some.is) _ c.load-life.ensures _ f _ c.finished.ensures _ c.store.ensures _
    c.drop_values.ensures
