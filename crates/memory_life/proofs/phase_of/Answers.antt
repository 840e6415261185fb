-- `phase_of` meets its contract: each arm is a case of the definition, and a number other than 0, 1 and 2 is read as Unloading.
use Rattle.std.proofs.Common.{rules}
use Rattle.memory_life.proofs.Codes.{phase_rest}
use Rattle.memory_life.proofs.phase_of.Goals as goal

pub returns-in_default : goal.returns-in_default
returns-in_default c = phase_rest _ (search rules) (search rules) (search rules)
