-- The digits counted so far and those of what is left are the number's.
use Rattle.std.proofs.Common.{◌+◌, ◌≤◌, ◌≡◌, length}
use Rattle.text_form.specs.Digits.{decimal_of}
use Rattle.text_decimal.proofs.digit_count.Given as goal

abbrev pub invariant-loop-left : goal.invariant-loop-left
invariant-loop-left l = (l.count + length (decimal_of l.left) ≡ length (decimal_of l.n)) × (l.count ≤ 20)

abbrev pub decreases-loop-left : goal.decreases-loop-left
decreases-loop-left l = l.left
