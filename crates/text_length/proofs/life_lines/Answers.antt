-- The names and marks, the digits, and the root.
use Rattle.std.proofs.Common.{arith}
use Rattle.text_length.proofs.Laws.{life_length}
use Rattle.text_length.proofs.life_lines.Goals as goal

pub returns : goal.returns
returns c = (omega (arith, life_length c.args.life), omega arith)
