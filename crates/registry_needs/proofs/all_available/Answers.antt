-- What is left to look at is available where all are, and what the table says is so.
use Rattle.std.proofs.Common.{arith, sym, ap, ◌∙◌, Bool}
use Rattle.std.specs.Slice.Iter.{chunks_exact_rest}
use Rattle.rules.specs.Basics.{all}
use Rattle.rules_types.specs.declared.Port.{Port}
use Rattle.rules.specs.Phases.{available}
use Rattle.rules.specs.Ports.{pairs}
use Rattle.memory.specs.View.{view}
use Rattle.memory_keys.specs.Known.{all_known}
use Rattle.ports.specs.Places.{pairs_end, all_hit, all_miss}
use Rattle.rules_laws.specs.Laws.Pairs.{pairs_chunk}
use Rattle.registry_needs.proofs.all_available.Goals as goal

pub loop-pair-init : goal.loop-pair-init
loop-pair-init c =
    let i = c.into_iter-pair-iterator.ensures.into_iter_gives in
    let e = c.chunks_exact-pair-items.ensures in
    (rw i e.size, all_known _, rw (i, e.rest))

pub loop-pair-preserved : goal.loop-pair-preserved
loop-pair-preserved c =
    let a = c.args in
    let f : Port → Bool = available (view a.m.now) in
    let step = c.in-Some.ensures.steps in
    let v = c.loop-pair.invariant in
    let e = c.is_available.ensures in
    let s = ap pairs step.1.0 ∙ pairs_chunk c.in-Some.pair.now _ (step.1.1 ∙ v.0) in
    (step.0 ∙ v.0, e.1, v.2 ∙ all_hit s f (sym e.0 ∙ c.if-not-is_available.false))

pub returns-then-not-is_available : goal.returns-then-not-is_available
returns-then-not-is_available c =
    let a = c.args in
    let f : Port → Bool = available (view a.m.now) in
    let step = c.in-Some.ensures.steps in
    let v = c.loop-pair.invariant in
    let s = ap pairs step.1.0 ∙ pairs_chunk c.in-Some.pair.now _ (step.1.1 ∙ v.0) in
    sym (v.2 ∙ all_miss s f (sym c.is_available.ensures.0 ∙ c.if-not-is_available.true))

pub returns : goal.returns
returns c =
    let a = c.args in
    let v = c.loop-pair.invariant in
    sym (v.2 ∙ ap (all (available (view a.m.now))) (pairs_end (chunks_exact_rest c.loop-pair.pair-iterator) 0 (omega (arith, c.in-None.ensures.steps.1.0, v.0))))

pub returns-then-list-lt-ROW_WORDS : goal.returns-then-list-lt-ROW_WORDS
returns-then-list-lt-ROW_WORDS c =
    let a = c.args in
    sym (ap (all (available (view a.m.now))) (pairs_end a.list.now 0 (omega arith)))
