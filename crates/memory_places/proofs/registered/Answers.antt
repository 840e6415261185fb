-- `registered` meets its contract: the ones of the occupancy word are as many as the taken places.
use Rattle.std.proofs.Common.{ap, ◌∙◌, arith, rules}
use lib.Count.{ones, ones-le}
use Rattle.memory_places.proofs.Words.{registered_ones}
use Rattle.memory_places.proofs.registered.Goals as goal

pub overflow_cast-result : goal.overflow_cast-result
overflow_cast-result c = omega (arith, ones-le 32 c.occupied.result (search rules))

pub returns : goal.returns
returns c = ap ones c.occupied.ensures ∙ registered_ones _
