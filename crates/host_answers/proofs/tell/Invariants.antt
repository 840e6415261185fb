-- What is left to put comes to the whole.
use Rattle.std.proofs.Common.{◌≡◌, ◌+◌, drop}
use Rattle.memory.specs.Writes.{puts}
use Rattle.host_answers.specs.Told.{counted}
use Rattle.host_answers.proofs.tell.Given as goal

abbrev pub invariant-loop-i : goal.invariant-loop-i
invariant-loop-i l = puts l.out 0 (l.i + 1) (drop l.i l.numbers) ≡ counted l.numbers l.fn.out
