-- The digits from the index on, behind the number so far, are the whole word's.
use Rattle.std.proofs.Common.{◌≡◌, drop}
use Rattle.text_form.specs.Words.{value_from}
use Rattle.text_decimal.proofs.read_digits.Given as goal

abbrev pub invariant-loop-byte : goal.invariant-loop-byte
invariant-loop-byte l = value_from 0 l.word ≡ value_from l.n (drop l.byte-index l.word)
