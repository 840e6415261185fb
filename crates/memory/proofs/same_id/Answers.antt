-- `same_id` meets its contract: no place before i has the id, so the search from i on finds what the whole one does.
use Rattle.std.proofs.Common.{arith, ◌≡◌, refl, sym, ◌∙◌}
use Rattle.memory.specs.Layout.{places}
use Rattle.memory.specs.Writes.{find_at}
use Rattle.memory.proofs.Search.{names_other, find_next}
use Rattle.memory.proofs.same_id.Goals as goal

pub loop-i-init : goal.loop-i-init
unfolding find_at
loop-i-init c = refl

pub returns-then-m-i : goal.returns-then-m-i
returns-then-m-i c = (omega arith, c.loop-i.invariant, λ h. c.if-m-i.true)

pub loop-i-preserved : goal.loop-i-preserved
loop-i-preserved c = c.loop-i.invariant ∙ find_next _ _ _ c.loop-i-test.true (sym (names_other _ _ _ c.if-m-i.false))

pub returns : goal.returns
returns c =
    let e : c.loop-i.i ≡ places = omega arith in
    (omega arith, rw e at c.loop-i.invariant, λ h. absurd (omega arith))
