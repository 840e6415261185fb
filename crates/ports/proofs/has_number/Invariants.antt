-- The number is not among those from i on.
use Rattle.std.proofs.Common.{◌≡◌, false, eqb, drop}
use Rattle.rules.specs.Basics.{any}
use Rattle.ports.proofs.has_number.Given as goal

abbrev pub invariant-loop-i : goal.invariant-loop-i
invariant-loop-i l = any (eqb l.n) (drop l.i l.numbers) ≡ false
