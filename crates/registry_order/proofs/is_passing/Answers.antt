-- `is_passing` meets its contract: the ids before place i follow.
use Rattle.std.proofs.Common.{arith, sym, ◌∙◌, length-take-le}
use Rattle.memory.specs.View.{view}
use Rattle.registry_order.proofs.Laws.{pass_length, pass_start, follow_end, follow_not, follow_on}
use Rattle.registry_order.proofs.is_passing.Goals as goal

pub returns-then-other_length : goal.returns-then-other_length
returns-then-other_length c =
    let a = c.args in
    pass_length (view a.m.now) a.set.now a.order.now c.if-other_length.true

pub loop-i-init : goal.loop-i-init
loop-i-init c =
    let a = c.args in
    pass_start (view a.m.now) a.set.now a.order.now c.if-other_length.false

pub slice_bounds-follows-end : goal.slice_bounds-follows-end
slice_bounds-follows-end c = sym (length-take-le c.loop-i.i c.args.order.now (omega arith))

pub returns-then-not-follows : goal.returns-then-not-follows
returns-then-not-follows c =
    let a = c.args in
    sym (c.loop-i.invariant ∙ follow_not (view a.m.now) a.set.now a.order.now c.loop-i.i c.loop-i-test.true
    _ (rw c.new-index.ensures.memory at c.follows.ensures) c.if-not-follows.true)

pub loop-i-preserved : goal.loop-i-preserved
loop-i-preserved c =
    let a = c.args in
    c.loop-i.invariant ∙ follow_on (view a.m.now) a.set.now a.order.now c.loop-i.i c.loop-i-test.true
    _ (rw c.new-index.ensures.memory at c.follows.ensures) c.if-not-follows.false

pub returns : goal.returns
returns c =
    let a = c.args in
    sym (c.loop-i.invariant ∙ follow_end (view a.m.now) a.set.now a.order.now c.loop-i.i c.loop-i-test.false)
