-- The digits from place i on, behind the number so far, are those from the first place on.
use Rattle.std.proofs.Common.{◌≡◌, drop}
use Rattle.text_read_number.specs.Numbers.{value_to}
use Rattle.text_read_number.proofs.digits.Given as goal

abbrev pub invariant-loop-i : goal.invariant-loop-i
invariant-loop-i l = value_to l.stop l.value (drop l.from l.text) ≡ value_to l.stop l.n (drop l.i l.text)
