-- The digits and the line's end, or `none`.
use Rattle.std.proofs.Common.{arith, []}
use Rattle.text_length.proofs.Laws.{number_length}
use Rattle.text_length.proofs.number_or_none.Goals as goal

pub returns-in-Some : goal.returns-in-Some
returns-in-Some c =
    rw c.in-Some.is (omega (arith, number_length [] c.in-Some.n), omega arith)
