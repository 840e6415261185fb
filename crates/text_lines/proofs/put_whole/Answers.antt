-- The bytes from the i-th on, laid in the text as it is now, are all of them laid in the text as it was.
use Rattle.std.proofs.Common.{refl, sym, ◌∙◌, arith, length-set}
use Rattle.text_lines.specs.Laid.{laid_start, laid_next, laid_end}
use Rattle.text_lines.proofs.put_whole.Goals as goal

pub loop-i-init : goal.loop-i-init
loop-i-init c = (refl, laid_start c.args.text.now c.args.at c.args.bytes.now)

pub loop-i-preserved : goal.loop-i-preserved
loop-i-preserved c =
    let l = c.loop-i in
    (simp length-set l.invariant.0, l.invariant.1 ∙ laid_next l.text c.args.bytes.now c.args.at l.i (omega arith))

pub shape_of-text : goal.shape_of-text
shape_of-text c = c.loop-i.invariant.0

pub returns : goal.returns
returns c =
    let l = c.loop-i in
    sym (l.invariant.1 ∙ laid_end l.text c.args.bytes.now c.args.at l.i (omega arith))
