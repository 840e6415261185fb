-- `none_waiting` meets its contract: the rounds that are to come over those that are left answer what all rounds do.
use Rattle.std.proofs.Common.{refl, sym, ap, ◌∙◌}
use Rattle.registry_cycles.specs.Left.{none_waiting}
use Rattle.registry_cycles.proofs.Rounds.{none_over, none_still, none_next, none_end}
use Rattle.registry_cycles.proofs.none_waiting.Goals as goal

pub loop-init : goal.loop-init
loop-init c = refl

pub returns-then-left-eq0 : goal.returns-then-left-eq0
returns-then-left-eq0 c = sym (c.loop.invariant ∙ none_over _ _ _ c.if-left-eq0.true)

pub returns-then-next-left : goal.returns-then-next-left
returns-then-next-left c =
    let w = c.still_waiting-next.ensures in
    sym (c.loop.invariant ∙ none_still _ _ _ (sym c.if-next-left.true ∙ w))

pub loop-preserved : goal.loop-preserved
loop-preserved c =
    c.loop.invariant ∙ none_next _ _ _ c.loop-test.true ∙ ap (none_waiting _ _) (sym c.still_waiting-next.ensures)

pub returns : goal.returns
returns c = sym (c.loop.invariant ∙ none_end _ _ _ c.loop-test.false)
