-- The bytes from the i-th on, laid in the text as it is now, are all of them laid in the text as it was.
use Rattle.std.proofs.Common.{◌+◌, ◌≡◌, length, drop}
use Rattle.text_lines.specs.Laid.{laid}
use Rattle.text_lines.proofs.put_whole.Given as goal

abbrev pub invariant-loop-i : goal.invariant-loop-i
invariant-loop-i l = (length l.text ≡ length l.initial.text) × (laid l.initial.text l.at l.bytes ≡ laid l.text (l.at + l.i) (drop l.i l.bytes))
