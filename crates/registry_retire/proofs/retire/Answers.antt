-- `retire` meets its contract: it refuses an unknown id, and sets the mark of the plugin found.
use Rattle.std.proofs.Common.{refl}
use Rattle.rules.specs.Retirement.{retire}
use Rattle.memory.specs.Known.{looked_up}
use Rattle.memory_life.specs.Told.{told_unknown}
use Rattle.registry_retire.specs.Laws.{told_marked}
use Rattle.registry_retire.proofs.retire.Goals as goal

pub returns-in_err-at : goal.returns-in_err-at
unfolding retire
returns-in_err-at c = told_unknown _ _ _ _ _ _ c.from_residual.ensures.1 c.in_err-at.ensures _

pub returns : goal.returns
returns c = told_marked _ _ _ _ (looked_up _ _ _ c.in_ok-at.ensures) refl _ _ c.mark.ensures
