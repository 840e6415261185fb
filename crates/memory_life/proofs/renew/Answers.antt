-- `renew` meets its contract.
use Rattle.std.proofs.Common.{rules}
use Rattle.memory.specs.Writes.{renewed_at}
use Rattle.memory_life.proofs.renew.Goals as goal

pub returns : goal.returns
unfolding renewed_at
returns c = search rules
