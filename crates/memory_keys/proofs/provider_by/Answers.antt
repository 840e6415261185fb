-- `provider_by` meets its contract: what is left to look at gives what the whole gives.
use Rattle.std.proofs.Common.{arith, refl, sym, ◌∙◌}
use Rattle.rules.specs.Holds.{port}
use Rattle.memory_keys.proofs.Laws.{found_here, found_next, found_end}
use Rattle.memory_keys.proofs.provider_by.Goals as goal

pub loop-i-init : goal.loop-i-init
loop-i-init c = (refl, refl)

pub returns-then-offers : goal.returns-then-offers
returns-then-offers c =
    let o = c.offers.ensures in
    let a = c.args in
    let l = c.loop-i.invariant in
    let f = found_here a.m.now c.loop-i.table a.port c.loop-i.i (omega arith) (sym o.0 ∙ c.if-offers.true) in
    (f.0 ∙ sym l.0, o.1 ∙ f.1 ∙ sym l.1)

pub loop-i-preserved : goal.loop-i-preserved
loop-i-preserved c =
    let o = c.offers.ensures in
    let n = found_next _ _ _ _ (omega arith) (sym o.0 ∙ c.if-offers.false) _ _ c.loop-i.invariant in
    rw o.1 n

pub returns : goal.returns
returns c =
    let a = c.args in
    let l = c.loop-i.invariant in
    let f = found_end a.m.now c.loop-i.table a.port c.loop-i.i (omega arith) in
    (f.0 ∙ sym l.0, f.1 ∙ sym l.1)
