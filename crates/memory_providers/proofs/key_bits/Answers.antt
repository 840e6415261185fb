-- The claims before the chunks that are left have their bits.
use Rattle.std.proofs.Common.{◌∙◌, sym, ap, arith}
use Rattle.std.specs.Slice.Iter.{chunks_exact_rest}
use Rattle.rules.specs.Ports.{pairs}
use Rattle.rules_laws.specs.Laws.Pairs.{pairs_chunk, pairs_end}
use Rattle.memory_providers.proofs.Keys.{bits_next, bits_end}
use Rattle.memory_providers.proofs.key_bits.Goals as goal

pub loop-port-preserved : goal.loop-port-preserved
loop-port-preserved c =
    let i = c.loop-port.invariant in
    let next = c.in-Some.ensures.steps in
    let s = ap pairs next.1.0 ∙ pairs_chunk c.in-Some.port.now _ (next.1.1 ∙ i.0) in
    (next.0 ∙ i.0, i.1 ∙ bits_next _ s c.with_bit-low.ensures c.with_bit-high.ensures)

pub returns : goal.returns
returns c =
    let i = c.loop-port.invariant in
    let short = pairs_end (chunks_exact_rest c.loop-port.port-iterator) 0 (omega (arith, c.in-None.ensures.steps.1.0, i.0)) in
    sym (i.1 ∙ bits_end _ short)
