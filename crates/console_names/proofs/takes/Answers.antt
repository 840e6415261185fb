-- `takes` meets its contract: each arm is the definition's test for that kind of count.
use Rattle.std.proofs.Common.{sym, ap}
use Rattle.console_names.specs.declared.Count.{Count}
use Rattle.console_names.specs.Table.{takes}
use Rattle.console_names.proofs.takes.Goals as goal

pub returns-in-Exactly : goal.returns-in-Exactly
returns-in-Exactly c = ap (λ (n : Count). takes n c.args.given) (sym c.in-Exactly.is)

pub returns-in-AtLeast : goal.returns-in-AtLeast
returns-in-AtLeast c = ap (λ (n : Count). takes n c.args.given) (sym c.in-AtLeast.is)
