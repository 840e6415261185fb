-- `provider_by` meets its contract: the bit that goes is that of a place that does not provide the port.
use Rattle.std.proofs.Common.{arith, ap, sym, ◌∙◌}
use Rattle.memory.specs.Layout.{word, places}
use Rattle.memory_places.specs.Bits.{zeros_fit}
use Rattle.memory_index.specs.Index.{first_among}
use Rattle.memory_index.proofs.Laws.{found_none, found_here, found_next, next_small, next_less}
use Rattle.memory_index.proofs.provider_by.Goals as goal

pub offset_bounds-index-word_for : goal.offset_bounds-index-word_for
offset_bounds-index-word_for c = record { fits = omega (arith, c.word_for.ensures.1) }

pub bounds-index-word_for : goal.bounds-index-word_for
bounds-index-word_for c = c.word_for.ensures.1

pub loop-left-init : goal.loop-left-init
loop-left-init c =
    let a = c.args in
    let e = c.bounded-left.ensures in
    (e.1, ap (λ w. first_among places a.memory.now w a.port 0) (sym (e.0 ∙ ap (word a.index.now) c.word_for.ensures.0)))

pub overflow_cast-i : goal.overflow_cast-i
overflow_cast-i c = record { fits = zeros_fit _ }

pub returns-then-provides : goal.returns-then-provides
returns-then-provides c =
    let l = c.loop-left in
    found_here c.args.memory.now c.args.port _ l.invariant.0 c.loop-left-test.true c.provides.ensures c.if-provides.true
    ∙ sym l.invariant.1

pub loop-left-smaller : goal.loop-left-smaller
loop-left-smaller c = next_less c.args.memory.now c.args.port _ c.loop-left.invariant.0 c.loop-left-test.true

pub loop-left-preserved : goal.loop-left-preserved
loop-left-preserved c =
    let l = c.loop-left in
    let m = c.args.memory.now in
    let z = c.loop-left-test.true in (
      next_small m c.args.port _ l.invariant.0 z,
      l.invariant.1 ∙ found_next m c.args.port _ l.invariant.0 z c.provides.ensures c.if-provides.false,
    )

pub returns : goal.returns
returns c = sym (c.loop-left.invariant.1 ∙ found_none _ _ _ c.loop-left-test.false)
