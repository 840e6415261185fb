-- `ready` meets its contract: each return is a case of the rule.
use Rattle.std.proofs.Common.{sym, ap, ◌∙◌, []}
use Rattle.rules.specs.Refusals.{Unknown, Retired, NotRun, Missing}
use Rattle.rules.specs.Phases as rules
use Rattle.memory.specs.Writes.{put_life}
use Rattle.memory.specs.Known.{none_known}
use Rattle.memory_life.specs.Told.{told_refused, handed_none, told_stored}
use Rattle.registry_ready_finish.specs.Laws.{ready_retired, ready_stuck, ready_not_run, ready_lacks, ready_moves, lacks_test}
use Rattle.registry_ready_finish.proofs.ready.Goals as goal

pub returns-in_default : goal.returns-in_default
unfolding rules.ready
returns-in_default c = told_refused _ _ Unknown [] (none_known _ _ (sym c.find.ensures ∙ c.in_default.is) _)

pub returns-then-life : goal.returns-then-life
returns-then-life c = told_refused _ _ Retired [] (ready_retired _ _ _ (sym c.find.ensures ∙ c.in-Some.is) _ c.load-life.ensures c.if-life.true)

pub returns-in_err-next : goal.returns-in_err-next
returns-in_err-next c =
    let n = c.in_err-next.ensures in
    handed_none _ _ _ _ _ _ _ _ c.from_residual.ensures.1 n.value n.ok_part
    (ready_stuck _ _ _ (sym c.find.ensures ∙ c.in-Some.is) _ c.load-life.ensures c.if-life.false (sym c.next.ensures ∙ n.ok_part))

pub returns-then-not-is_spent : goal.returns-then-not-is_spent
returns-then-not-is_spent c =
    let f = sym c.next.ensures ∙ c.in_ok-next.ensures.ok_part in
    told_refused _ _ NotRun [] (ready_not_run _ _ _ (sym c.find.ensures ∙ c.in-Some.is) _ c.load-life.ensures c.if-life.false _ f _
    c.is_spent.ensures c.if-not-is_spent.true)

pub returns-then-is_some : goal.returns-then-is_some
returns-then-is_some c =
    let f = sym c.next.ensures ∙ c.in_ok-next.ensures.ok_part in
    let x = lacks_test _ _ _ _ c.first_lacking.ensures c.is_some.ensures ∙ c.if-is_some.true in
    told_refused _ _ Missing [] (ready_lacks _ _ _ (sym c.find.ensures ∙ c.in-Some.is) _ c.load-life.ensures c.if-life.false _ f _
    c.is_spent.ensures c.if-not-is_spent.false x)

pub returns : goal.returns
returns c =
    let e = sym c.find.ensures ∙ c.in-Some.is in
    let f = sym c.next.ensures ∙ c.in_ok-next.ensures.ok_part in
    let x = lacks_test _ _ _ _ c.first_lacking.ensures c.is_some.ensures ∙ c.if-is_some.false in
    told_stored _ _ _ _ [] _ _ e (ready_moves _ _ _ e _ c.load-life.ensures c.if-life.false _ f _ c.is_spent.ensures c.if-not-is_spent.false x)
    (c.store.ensures ∙ ap (put_life _ _) c.with_phase.ensures)
