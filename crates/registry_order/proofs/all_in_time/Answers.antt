-- Each port before the chunks that are left is provided in time.
use Rattle.std.proofs.Common.{arith, sym, ap, ◌∙◌, Bool}
use Rattle.std.specs.Slice.Iter.{chunks_exact_rest}
use Rattle.rules.specs.Basics.{all}
use Rattle.rules_types.specs.declared.Port.{Port}
use Rattle.rules.specs.Orders.{in_time}
use Rattle.rules.specs.Ports.{pairs}
use Rattle.memory.specs.View.{view}
use Rattle.ports.specs.Places.{pairs_end, all_hit, all_miss}
use Rattle.rules_laws.specs.Laws.Pairs.{pairs_chunk}
use Rattle.registry_order.proofs.all_in_time.Goals as goal

pub loop-pair-preserved : goal.loop-pair-preserved
loop-pair-preserved c =
    let f : Port → Bool = in_time (view c.args.index.now.memory.now) c.args.before.now in
    let i = c.loop-pair.invariant in
    let next = c.in-Some.ensures.steps in
    let s = ap pairs next.1.0 ∙ pairs_chunk c.in-Some.pair.now _ (next.1.1 ∙ i.0) in
    (next.0 ∙ i.0, i.1 ∙ all_hit s f (sym c.is_in_time.ensures ∙ c.if-not-is_in_time.false))

pub returns-then-not-is_in_time : goal.returns-then-not-is_in_time
returns-then-not-is_in_time c =
    let f : Port → Bool = in_time (view c.args.index.now.memory.now) c.args.before.now in
    let i = c.loop-pair.invariant in
    let next = c.in-Some.ensures.steps in
    let s = ap pairs next.1.0 ∙ pairs_chunk c.in-Some.pair.now _ (next.1.1 ∙ i.0) in
    sym (i.1 ∙ all_miss s f (sym c.is_in_time.ensures ∙ c.if-not-is_in_time.true))

pub returns : goal.returns
returns c =
    let i = c.loop-pair.invariant in
    let e = pairs_end (chunks_exact_rest c.loop-pair.pair-iterator) 0 (omega (arith, c.in-None.ensures.steps.1.0, i.0)) in
    sym (i.1 ∙ ap (all (in_time (view c.args.index.now.memory.now) c.args.before.now)) e)
