-- `id_from` meets its contract: the lowest so far and the ids of the places from i on have the lowest of all; the last id of all is looked up.
use Rattle.std.specs.Prelude.{Some}
use Rattle.std.proofs.Common.{arith, ap, ◌∙◌}
use Rattle.memory_places.specs.Lowest.{lowest_below, lowest_last, lowest_view}
use Rattle.memory_places.proofs.Loops.{id_begin, id_next, id_end}
use Rattle.memory_places.proofs.id_from.Goals as goal

pub loop-i-init : goal.loop-i-init
loop-i-init c = id_begin _ _

pub loop-i-preserved : goal.loop-i-preserved
loop-i-preserved c = id_next _ _ _ _ _ c.loop-i-test.true c.loop-i.invariant c.lower-lowest.ensures.0 c.lower-lowest.ensures.1

pub returns-then-lowest : goal.returns-then-lowest
returns-then-lowest c =
    let e = id_end _ _ _ _ c.loop-i-test.false c.loop-i.invariant in
    lowest_view _ _ c.last.result
    (c.last.ensures
    ∙ lowest_last _ (λ j h. c.loop-i.invariant.1 j (omega (arith, c.loop-i-test.false))) _ (omega (arith, c.ranges.number)) (e ∙ ap Some c.if-lowest.true))

pub returns : goal.returns
returns c =
    lowest_view _ _ (Some c.loop-i.lowest)
    (lowest_below _ _ _ (id_end _ _ _ _ c.loop-i-test.false c.loop-i.invariant) c.if-lowest.false)
