-- `retire_child` meets its contract: each return is a case of the rule.
use Rattle.std.proofs.Common.{sym, ◌∙◌, []}
use Rattle.rules.specs.Refusals.{Unknown, InvalidState}
use Rattle.memory_life.specs.Told.{told_refused, told_same}
use Rattle.registry_retire.specs.Laws.{told_marked, child_foreign, child_below, child_above, child_gone, child_other, child_own}
use Rattle.registry_retire.proofs.retire_child.Goals as goal
use Rattle.registry_retire.proofs.retire_child.Goals.{then-child-first_id-via-then-child-first_id, then-child-first_id-via-else-child-first_id+then-next_id-child}

pub returns-then-child-domain : goal.returns-then-child-domain
returns-then-child-domain c = told_refused _ _ InvalidState [] (child_foreign _ _ _ c.domain.ensures c.if-child-domain.true)

pub returns-then-child-first_id : goal.returns-then-child-first_id
returns-then-child-first_id c =
    told_refused _ _ Unknown []
    (elim c.then-child-first_id.branch [
      | then-child-first_id-via-then-child-first_id w ↦ child_below _ _ _ c.domain.ensures _ c.if-child-domain.false c.first_id.ensures w.if-child-first_id.true
      | then-child-first_id-via-else-child-first_id+then-next_id-child w ↦
          child_above _ _ _ c.domain.ensures _ c.if-child-domain.false c.first_id.ensures _ w.if-child-first_id.false w.next_id.ensures
          w.if-next_id-child.true
    ])

pub returns-in_default : goal.returns-in_default
returns-in_default c =
    told_same _ _ [] (child_gone _ _ _ c.domain.ensures _ c.if-child-domain.false c.first_id.ensures _ c.if-child-first_id.false
    c.next_id.ensures c.if-next_id-child.false (sym c.find.ensures ∙ c.in_default.is))

pub returns-then-not-is_child_of : goal.returns-then-not-is_child_of
returns-then-not-is_child_of c =
    let e = sym c.find.ensures ∙ c.in-Some.is in
    told_refused _ _ InvalidState [] (child_other _ _ _ c.domain.ensures _ c.if-child-domain.false c.first_id.ensures _ c.if-child-first_id.false
    c.next_id.ensures c.if-next_id-child.false _ _ e c.is_child_of.ensures c.if-not-is_child_of.true)

pub returns : goal.returns
returns c =
    let e = sym c.find.ensures ∙ c.in-Some.is in
    told_marked _ _ _ _ e (child_own _ _ _ c.domain.ensures _ c.if-child-domain.false c.first_id.ensures _ c.if-child-first_id.false
    c.next_id.ensures c.if-next_id-child.false _ _ e c.is_child_of.ensures c.if-not-is_child_of.false) _ _ c.mark.ensures
