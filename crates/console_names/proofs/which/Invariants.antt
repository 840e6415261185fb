-- The word is none of the names before place at, and they are i names.
use Rattle.std.proofs.Common.{◌+◌, ◌-◌, ◌≤◌, ◌≡◌, length, drop}
use Rattle.console_words.specs.Parted.{words}
use Rattle.console_names.specs.Names.{place_among}
use Rattle.console_names.proofs.which.Given as goal

abbrev pub invariant-loop-at : goal.invariant-loop-at
invariant-loop-at l = (l.i ≤ l.at) × (l.at ≤ length l.names) × (place_among l.word (words l.names) ≡ l.i + place_among l.word (words (drop l.at l.names)))

abbrev pub decreases-loop-at : goal.decreases-loop-at
decreases-loop-at l = length l.names - l.at
