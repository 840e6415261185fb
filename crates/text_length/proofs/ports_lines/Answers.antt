-- The lines counted so far and those of the chunks that are left are all of them.
use Rattle.std.proofs.Common.{arith, refl, ap, length, length-append}
use Rattle.std.specs.Slice.Iter.{chunks_exact_rest}
use Rattle.ports.specs.Places.{length_pairs}
use Rattle.text_length.proofs.Laws.{ports_start, ports_end}
use Rattle.text_length.proofs.ports_lines.Goals as goal

pub loop-port-init : goal.loop-port-init
loop-port-init c =
    let a = c.args in
    let items = c.chunks_exact-port-items.ensures in
    rw (c.into_iter-port-iterator.ensures.into_iter_gives, items.rest, items.size)
    (refl, omega arith, omega (arith, ports_start a.plural.now a.name.now a.ports.now))

pub overflow_add-total-in-loop-port-3 : goal.overflow_add-total-in-loop-port-3
overflow_add-total-in-loop-port-3 c =
    let next = c.in-Some.ensures.steps.1 in
    let i = c.loop-port.invariant in
    omega (arith, length_pairs c.args.ports.now, i.0, i.1, ap length next.0, length-append c.in-Some.port.now (chunks_exact_rest c.next.new.self), next.1)

pub returns : goal.returns
returns c =
    let i = c.loop-port.invariant in
    let rest = chunks_exact_rest c.loop-port.port-iterator in
    let none = ports_end c.args.name.now rest (omega (arith, c.in-None.ensures.steps.1.0, i.0)) in
    (omega (arith, none, i.2), omega (arith, length_pairs c.args.ports.now, i.1))
