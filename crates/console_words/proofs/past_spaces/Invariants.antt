-- Every byte from the first place up to place i is a space.
use Rattle.std.proofs.Common.{◌+◌, ◌≡◌, drop}
use Rattle.console_words.specs.Words.{spaces}
use Rattle.console_words.proofs.past_spaces.Given as goal

abbrev pub invariant-loop-i : goal.invariant-loop-i
invariant-loop-i l = l.from + spaces (drop l.from l.line) ≡ l.i + spaces (drop l.i l.line)
