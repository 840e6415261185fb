-- The number is not among those from i on.
use Rattle.std.proofs.Common.{ap, eqb}
use lib.Seq.{drop-length}
use Rattle.rules.specs.Basics.{any}
use Rattle.ports.proofs.has_number.Goals as goal

pub loop-i-init : goal.loop-i-init
loop-i-init c = ap (any (eqb c.args.n)) (drop-length c.args.numbers.now)
