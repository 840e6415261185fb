-- No byte from the first place up to place i is a space.
use Rattle.std.proofs.Common.{◌+◌, ◌≡◌, drop}
use Rattle.console_words.specs.Words.{word_length}
use Rattle.console_words.proofs.past_word.Given as goal

abbrev pub invariant-loop-i : goal.invariant-loop-i
invariant-loop-i l = l.from + word_length (drop l.from l.line) ≡ l.i + word_length (drop l.i l.line)
