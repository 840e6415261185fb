-- `fail` meets its contract: each return is a case of the rule.
use Rattle.std.proofs.Common.{sym, ap, ◌∙◌, []}
use Rattle.rules.specs.Refusals.{Unknown}
use Rattle.rules.specs.Phases as rules
use Rattle.memory.specs.Writes.{put_life}
use Rattle.memory.specs.Known.{none_known}
use Rattle.memory_life.specs.Told.{told_refused, handed_none, told_stored}
use Rattle.registry_steps.specs.Laws.{fail_stuck, fail_moves}
use Rattle.registry_steps.proofs.fail.Goals as goal

pub returns-in_default : goal.returns-in_default
unfolding rules.fail
returns-in_default c = told_refused _ _ Unknown [] (none_known _ _ (sym c.find.ensures ∙ c.in_default.is) _)

pub returns-in_err-next : goal.returns-in_err-next
returns-in_err-next c =
    let n = c.in_err-next.ensures in
    handed_none _ _ _ _ _ _ _ _ c.from_residual.ensures.1 n.value n.ok_part
    (fail_stuck _ _ _ (sym c.find.ensures ∙ c.in-Some.is) _ c.load-life.ensures (sym c.next.ensures ∙ n.ok_part))

pub returns : goal.returns
returns c =
    let e = sym c.find.ensures ∙ c.in-Some.is in
    let f = sym c.next.ensures ∙ c.in_ok-next.ensures.ok_part in
    told_stored _ _ _ _ [] _ _ e (fail_moves _ _ _ e _ c.load-life.ensures _ f) (c.store.ensures ∙ ap (put_life _ _) c.with_phase.ensures)
