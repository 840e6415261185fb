-- The digits of what is left over the scratch as it is now are the number's over the scratch as it was. The measure is what is left.
use Rattle.std.proofs.Common.{◌+◌, ◌<◌, ◌≡◌, length}
use Rattle.text_form.specs.Digits.{decimal_of, over}
use Rattle.text_decimal.proofs.fill.Given as goal

abbrev pub invariant-loop-left : goal.invariant-loop-left
invariant-loop-left l =
    (l.i + 1 ≡ length (decimal_of l.left)) × (l.i < length l.initial.scratch) × (length l.scratch ≡ length l.initial.scratch)
    × (over (decimal_of l.n) l.initial.scratch ≡ over (decimal_of l.left) l.scratch)

abbrev pub decreases-loop-left : goal.decreases-loop-left
decreases-loop-left l = l.left
