-- `admit` meets its contract: it hands a refusal on, or stores the root.
use Rattle.memory_life.specs.Told.{handed_on}
use Rattle.registry_admit.specs.Laws.{told_rooted}
use Rattle.registry_admit.proofs.admit.Goals as goal

pub returns-in_err-at : goal.returns-in_err-at
returns-in_err-at c = handed_on _ _ _ _ _ _ c.from_residual.ensures.1 (c.in_err-at.ensures _)

pub returns : goal.returns
returns c =
    let h = c.in_ok-at.ensures in
    told_rooted _ _ _ _ h.0 h.1 _ _ _ _ _ (h.2 _) c.with_root.ensures c.store.ensures
