-- `last` meets its contract: the last id is registered where it has a place.
use Rattle.std.proofs.Common.{sym, ◌∙◌}
use Rattle.memory_places.specs.Lowest.{last_found, last_missed}
use Rattle.memory_places.proofs.last.Goals as goal

pub returns-in_default : goal.returns-in_default
returns-in_default c = last_missed _ (sym c.find.ensures ∙ c.in_default.is)

pub returns : goal.returns
returns c = last_found _ _ (sym c.find.ensures ∙ c.in-Some.is)
