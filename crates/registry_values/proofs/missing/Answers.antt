-- `missing` meets its contract: the id is unknown, or the first port or none.
use Rattle.std.proofs.Common.{rules}
use Rattle.registry_values.specs.Questions.{missing_none, missing_answer}
use Rattle.registry_values.proofs.missing.Goals as goal

pub returns-in_err-at : goal.returns-in_err-at
returns-in_err-at c = missing_none _ _ _ _ _ c.from_residual.ensures.1 c.in_err-at.ensures

pub returns : goal.returns
returns c = missing_answer _ _ _ c.in_ok-at.ensures _ _ c.first_lacking.ensures c.provision_words-list.ensures _ (search rules)
