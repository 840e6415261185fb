-- The numbers from place n-index on, behind what is written, are the whole list's.
use Rattle.std.proofs.Common.{◌≡◌, drop}
use Rattle.console_answer.specs.Pages.{numbers_on}
use Rattle.console_answer.proofs.Page.numbers.Given as goal

abbrev pub invariant-loop-n : goal.invariant-loop-n
invariant-loop-n l = numbers_on l.initial.self l.list ≡ numbers_on l.self (drop l.n-index l.list)
