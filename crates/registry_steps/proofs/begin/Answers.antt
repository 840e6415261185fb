-- `begin` meets its contract: each return is a case of the rule.
use Rattle.std.proofs.Common.{sym, ◌∙◌, []}
use Rattle.rules.specs.Refusals.{Unknown, Retired, Exhausted, Unavailable}
use Rattle.rules.specs.Phases as rules
use Rattle.memory.specs.Known.{none_known}
use Rattle.memory_life.specs.Told.{told_refused, handed_none}
use Rattle.registry_steps.specs.Laws.{begin_retired, begin_stuck, begin_last, begin_lacks, begin_told}
use Rattle.registry_steps.proofs.begin.Goals as goal

pub returns-in_default : goal.returns-in_default
unfolding rules.begin
returns-in_default c = told_refused _ _ Unknown [] (none_known _ _ (sym c.find.ensures ∙ c.in_default.is) _)

pub returns-then-life : goal.returns-then-life
returns-then-life c = told_refused _ _ Retired [] (begin_retired _ _ _ (sym c.find.ensures ∙ c.in-Some.is) _ c.load-life.ensures c.if-life.true)

pub returns-in_err-next : goal.returns-in_err-next
returns-in_err-next c =
    let n = c.in_err-next.ensures in
    handed_none _ _ _ _ _ _ _ _ c.from_residual.ensures.1 n.value n.ok_part
    (begin_stuck _ _ _ (sym c.find.ensures ∙ c.in-Some.is) _ c.load-life.ensures c.if-life.false (sym c.next.ensures ∙ n.ok_part))

pub returns-then-eq : goal.returns-then-eq
returns-then-eq c =
    let f = sym c.next.ensures ∙ c.in_ok-next.ensures.ok_part in
    told_refused _ _ Exhausted [] (begin_last _ _ _ (sym c.find.ensures ∙ c.in-Some.is) _ c.load-life.ensures c.if-life.false _ f
    (sym c.if-eq.ensures))

pub returns-then-not-all_available : goal.returns-then-not-all_available
returns-then-not-all_available c =
    let f = sym c.next.ensures ∙ c.in_ok-next.ensures.ok_part in
    told_refused _ _ Unavailable [] (begin_lacks _ _ _ (sym c.find.ensures ∙ c.in-Some.is) _ c.load-life.ensures c.if-life.false _ f
    (sym c.if-eq.ensures) _ c.dependency_words.ensures _ c.all_available.ensures c.if-not-all_available.true)

pub returns : goal.returns
returns c =
    let f = sym c.next.ensures ∙ c.in_ok-next.ensures.ok_part in
    begin_told _ _ _ (sym c.find.ensures ∙ c.in-Some.is) _ c.load-life.ensures c.if-life.false _ f (sym c.if-eq.ensures) _
    c.dependency_words.ensures _ c.all_available.ensures c.if-not-all_available.false _ c.domain-domain.ensures _ c.begun-begun.ensures _
    c.store.ensures
