-- What laying the ports that are left comes to, from the place on in the text as it is now, laying all of them comes to.
use Rattle.std.proofs.Common.{arith, ap, ◌∙◌}
use Rattle.std.specs.Slice.Iter.{chunks_exact_rest}
use Rattle.rules.specs.Ports.{pairs}
use Rattle.text_lines.specs.Laid.{laid_none, laid_then, laid_same}
use Rattle.rules_laws.specs.Laws.Pairs.{pairs_chunk}
use Rattle.rules_laws.specs.Laws.Pairs.{pairs_end}
use Rattle.text_lines.proofs.port_lines.Goals as goal

pub loop-port-preserved : goal.loop-port-preserved
loop-port-preserved c =
    let l = c.loop-port in
    let line = c.pair_line-place.ensures in
    let step = c.in-Some.ensures.steps in
    let next = ap pairs step.1.0 ∙ pairs_chunk c.in-Some.port.now _ (step.1.1 ∙ l.invariant.0) in
    (step.0 ∙ l.invariant.0, omega (arith, line.place), laid_same line ∙ l.invariant.2, λ v r x. l.invariant.3 v r (rw next (laid_then line x)))

pub returns : goal.returns
returns c =
    let l = c.loop-port in
    let step = c.in-None.ensures.steps in
    let end = pairs_end (chunks_exact_rest l.port-iterator) 0 (omega (arith, step.1.0, l.invariant.0)) in
    l.invariant.3 _ _ (rw end (laid_none l.place l.text l.invariant.1 (omega arith)))
