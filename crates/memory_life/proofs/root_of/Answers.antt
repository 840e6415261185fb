-- `root_of` meets its contract: each arm is a case of the definition, and a tag other than 0 and 1 is a spent root.
use Rattle.std.proofs.Common.{rules}
use Rattle.memory_life.proofs.Codes.{root_rest}
use Rattle.memory_life.proofs.root_of.Goals as goal

pub returns-in-1 : goal.returns-in-1
returns-in-1 c = rw c.in-1.is

pub returns-in_default : goal.returns-in_default
returns-in_default c = root_rest _ _ _ (search rules) (search rules)
