-- `admits` meets its contract: what asking says.
use Rattle.registry_admit.specs.Laws.{asked_accepts}
use Rattle.registry_admit.proofs.admits.Goals as goal

pub returns : goal.returns
returns c = asked_accepts _ _ _ _ c.ask.ensures c.is_ok.ensures.value
