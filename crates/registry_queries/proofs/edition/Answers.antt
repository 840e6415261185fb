-- `edition` meets its contract.
use Rattle.rules.specs.Queries.{EditionOf}
use Rattle.registry_queries.proofs.Laws.{no_answer, edition_told}
use Rattle.registry_queries.proofs.edition.Goals as goal

pub returns-in_err-at : goal.returns-in_err-at
returns-in_err-at c = no_answer _ _ _ _ _ c.from_residual.ensures.1 c.in_err-at.ensures EditionOf

pub returns : goal.returns
returns c = edition_told _ _ _ c.in_ok-at.ensures _ c.realm_words.ensures _ c.edition.ensures
