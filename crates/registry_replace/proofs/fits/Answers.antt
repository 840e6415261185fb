-- `fits` meets its contract: the id is unknown, or the code's test tells.
use Rattle.std.proofs.Common.{arith}
use Rattle.memory.specs.Known.{looked_up}
use Rattle.registry_replace.specs.Laws.{fits_none, fits_told}
use Rattle.registry_replace.proofs.fits.Goals as goal

pub returns-in_err-at : goal.returns-in_err-at
returns-in_err-at c = fits_none _ _ _ _ _ _ c.from_residual.ensures.1 c.in_err-at.ensures

pub returns : goal.returns
returns c =
    fits_told _ _ _ _ (looked_up _ _ _ c.in_ok-at.ensures) _ c.load-life.ensures _ (omega arith) c.fits_behind.ensures
