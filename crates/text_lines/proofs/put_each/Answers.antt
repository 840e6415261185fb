-- What is laid behind the bytes so far is laid as all of them from the start.
use Rattle.std.proofs.Common.{refl, ◌∙◌, arith, drop_of_length-le}
use Rattle.text_lines.specs.Laid.{laid_none, laid_same, laid_then}
use Rattle.text_lines.proofs.Laws.{byte_next}
use Rattle.text_lines.proofs.put_each.Goals as goal

pub loop-byte-init : goal.loop-byte-init
loop-byte-init c = (omega arith, refl, λ v r x. x)

pub loop-byte-preserved : goal.loop-byte-preserved
loop-byte-preserved c =
    let l = c.loop-byte in
    let byte = c.put_byte-place.ensures in
    let next = byte_next c.args.bytes.now l.byte-index (omega arith) in
    (omega (arith, byte.place), laid_same byte ∙ l.invariant.1, λ v r x. l.invariant.2 v r (rw next (laid_then byte x)))

pub returns : goal.returns
returns c =
    let l = c.loop-byte in
    let end = drop_of_length-le c.args.bytes.now {i = l.byte-index} (omega arith) in
    l.invariant.2 _ _ (rw end (laid_none l.place l.text l.invariant.0 (omega arith)))
