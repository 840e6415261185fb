-- `list_realms` meets its contract.
use Rattle.std.proofs.Common.{ap, ◌∙◌, drop}
use Rattle.rules.specs.Lists.{RealmRows}
use Rattle.registry_queries.proofs.Laws.{no_list, list_answer}
use Rattle.registry_queries.proofs.list_realms.Goals as goal

pub returns-in_err-at : goal.returns-in_err-at
returns-in_err-at c = no_list _ _ _ _ _ c.from_residual.ensures.1 c.in_err-at.ensures RealmRows _ _

pub returns : goal.returns
returns c = list_answer _ _ _ c.in_ok-at.ensures RealmRows _ _ _ _ _ (c.rows.ensures ∙ ap (drop 2) c.realm_words-realms.ensures) c.list_ports.ensures
