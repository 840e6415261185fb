-- What laying the provisions that are left comes to, laying all of them comes to.
use Rattle.std.proofs.Common.{◌%◌, ◌≤◌, arith, refl, ◌∙◌, length}
use Rattle.memory.specs.Layout.{places}
use Rattle.rules.specs.Basics.{last}
use Rattle.text_lines.specs.Laid.{laid_none, laid_then, laid_same}
use Rattle.text_block.specs.Parts.{laid_as}
use Rattle.text_block.specs.Laws.{one_provision, no_provision, provision_bytes}
use Rattle.text_block.proofs.provision_lines.Goals as goal

pub loop-j-init : goal.loop-j-init
loop-j-init c = (omega (arith, c.number_line-behind.ensures.place), refl, λ v r x. x)

pub loop-j-preserved : goal.loop-j-preserved
loop-j-preserved c =
    let l = c.loop-j in
    let a = c.args in
    let w = c.provision_words-words in
    let line = c.provision_line-behind.ensures in
    let next = one_provision a.m.now (a.place % places) l.j w.ensures (omega arith) in
    (omega (arith, line.place), laid_same line ∙ l.invariant.1, λ v r x. l.invariant.2 v r (laid_as next (laid_then line x)))

pub shape_of-text : goal.shape_of-text
shape_of-text c = c.loop-j.invariant.1 ∙ laid_same c.number_line-behind.ensures

pub returns : goal.returns
returns c =
    let l = c.loop-j in
    let a = c.args in
    let w = c.provision_words-words in
    let count = c.number_line-behind.ensures in
    let fits : length l.text ≤ last = omega (arith, l.invariant.1, laid_same count, count.fits) in
    let end = laid_as (no_provision a.m.now (a.place % places) l.j w.result.now (omega arith)) (laid_none l.behind l.text l.invariant.0 fits) in
    laid_as (provision_bytes a.m.now (a.place % places) w.ensures) (laid_then count (l.invariant.2 _ _ end))
