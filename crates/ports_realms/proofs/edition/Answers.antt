-- The first number decides.
use Rattle.std.proofs.Common.{rules}
use Rattle.rules.specs.Ports.{realm_list}
use Rattle.ports_realms.proofs.edition.Goals as goal

pub returns-in-2 : goal.returns-in-2
unfolding realm_list
returns-in-2 c = search rules

pub returns-in_default : goal.returns-in_default
unfolding realm_list
returns-in_default c = search rules
