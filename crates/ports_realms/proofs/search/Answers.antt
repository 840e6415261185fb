-- From what is left, with the comparisons made so far, the search ends as from the whole list.
use Rattle.std.proofs.Common.{◌+◌, arith, refl, sym, ap, ◌∙◌, inl, inr}
use Rattle.rules_types.specs.declared.Port.{Port}
use Rattle.ports_realms.proofs.Interval.{starts, goes_on_lem, ends_empty, ends_other, ends_found}
use Rattle.ports_realms.proofs.search.Goals as goal
use Rattle.ports_realms.proofs.search.Goals.{then-rows-at, else-rows-at}

pub loop-half-init : goal.loop-half-init
loop-half-init c = (starts _ _, refl)

pub overflow_add-comparisons : goal.overflow_add-comparisons
overflow_add-comparisons c = omega (arith, c.loop-half.invariant.0.few)

pub loop-half-preserved : goal.loop-half-preserved
loop-half-preserved c =
    let next = goes_on_lem c.loop-half.invariant.0 c.loop-half.half c.loop-half.invariant.1 (omega arith) in
    (next (elim c.if-rows-at.branch [ then-rows-at w ↦ inl (w.if-rows-at.true, w.at-is) | else-rows-at w ↦ inr (w.if-rows-at.false, w.at-is) ]), refl)

pub returns-then-left-eq0 : goal.returns-then-left-eq0
returns-then-left-eq0 c = sym (ends_empty c.loop-half.invariant.0 _ c.if-left-eq0.true)

pub overflow_add-comparisons-2 : goal.overflow_add-comparisons-2
overflow_add-comparisons-2 c = omega (arith, c.loop-half.invariant.0.few)

pub returns-then-rows-at-2 : goal.returns-then-rows-at-2
returns-then-rows-at-2 c = sym (ends_other c.loop-half.invariant.0 _ (omega arith) c.if-rows-at-2.true)

pub returns : goal.returns
returns c =
    ap (λ (q : Port). record { port = q; comparisons = c.loop-half.comparisons + 1 }) c.new.ensures
    ∙ sym (ends_found c.loop-half.invariant.0 _ (omega arith) c.if-rows-at-2.false)
