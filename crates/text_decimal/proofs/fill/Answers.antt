-- The digits of what is left over the scratch as it is now are the number's over the scratch as it was. The measure is what is left.
use Rattle.std.proofs.Common.{◌/◌, ◌≤◌, ◌≡◌, refl, sym, ◌∙◌, arith, length, length-set}
use Rattle.text_form.specs.Writing.{digits_some, digits_two, digits_least, two_stored, pair_stored, first_stored}
use Rattle.text_decimal.proofs.fill.Goals as goal

pub overflow_sub-i : goal.overflow_sub-i
overflow_sub-i c = omega (arith, digits_some c.args.n)

pub loop-left-init : goal.loop-left-init
loop-left-init c = (omega (arith, digits_some c.args.n), omega (arith, digits_some c.args.n), refl, refl)

pub overflow_sub-scratch : goal.overflow_sub-scratch
overflow_sub-scratch c = omega (arith, digits_least 2 c.loop-left.left (omega arith))

pub bounds-scratch-i-in-loop-left : goal.bounds-scratch-i-in-loop-left
bounds-scratch-i-in-loop-left c = simp length-set (omega (arith, digits_least 2 c.loop-left.left (omega arith)))

pub overflow_sub-i-in-loop-left : goal.overflow_sub-i-in-loop-left
overflow_sub-i-in-loop-left c = omega (arith, digits_least 2 c.loop-left.left (omega arith))

pub loop-left-preserved : goal.loop-left-preserved
loop-left-preserved c =
    let l = c.loop-left in
    let g : 100 ≤ l.left = c.loop-left-test.true in
    let long : length l.scratch ≡ length c.args.scratch.now = l.invariant.2 in
    let hundredth = digits_two l.left g in
    let some = digits_some (l.left / 100) in
    (omega arith, omega arith, simp length-set long, l.invariant.3 ∙ two_stored l.left l.scratch l.i g l.invariant.0 (omega arith))

pub shape_of-scratch-then-left-lt10 : goal.shape_of-scratch-then-left-lt10
shape_of-scratch-then-left-lt10 c = simp length-set c.loop-left.invariant.2

pub returns-then-left-lt10 : goal.returns-then-left-lt10
returns-then-left-lt10 c =
    let l = c.loop-left in
    let long : length l.scratch ≡ length c.args.scratch.now = l.invariant.2 in
    sym (l.invariant.3 ∙ first_stored l.left l.scratch (omega arith) (omega arith))

pub bounds-scratch-1 : goal.bounds-scratch-1
bounds-scratch-1 c = omega (arith, digits_least 1 c.loop-left.left (omega arith))

pub bounds-scratch-0-2 : goal.bounds-scratch-0-2
bounds-scratch-0-2 c = simp length-set (omega (arith, digits_least 1 c.loop-left.left (omega arith)))

pub shape_of-scratch : goal.shape_of-scratch
shape_of-scratch c = simp length-set c.loop-left.invariant.2

pub returns : goal.returns
returns c =
    let l = c.loop-left in
    let long : length l.scratch ≡ length c.args.scratch.now = l.invariant.2 in
    let two = digits_least 1 l.left (omega arith) in
    sym (l.invariant.3 ∙ pair_stored l.left l.scratch (omega arith) (omega arith) (omega arith))
