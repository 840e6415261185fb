-- Too few numbers, or the first of them decides.
use Rattle.std.proofs.Common.{rules}
use Rattle.rules.specs.Ports.{bad_edition}
use Rattle.ports_realms.proofs.bad_edition.Goals as goal

pub returns-then-realms-lt2 : goal.returns-then-realms-lt2
unfolding bad_edition
returns-then-realms-lt2 c = search rules

pub returns-else-realms-lt2 : goal.returns-else-realms-lt2
unfolding bad_edition
returns-else-realms-lt2 c = search rules
