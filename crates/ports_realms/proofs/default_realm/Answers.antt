-- `default_realm` meets its contract: it is the edition's.
use Rattle.std.proofs.Common.{ap, ◌∙◌}
use Rattle.rules.specs.Holds.{default_of}
use Rattle.ports_realms.proofs.default_realm.Goals as goal

pub returns : goal.returns
returns c = c.default.ensures ∙ ap default_of c.edition.ensures
