-- `matches` meets its contract: the id is unknown, or its provision list tells.
use Rattle.registry_values.specs.Questions.{matching_none, matching_answer}
use Rattle.registry_values.proofs.matches.Goals as goal

pub returns-in_err-at : goal.returns-in_err-at
returns-in_err-at c = matching_none _ _ _ _ _ c.from_residual.ensures.1 c.in_err-at.ensures _

pub returns : goal.returns
returns c = matching_answer _ _ _ c.in_ok-at.ensures _ _ c.provision_words.ensures _ c.same_ports.ensures
