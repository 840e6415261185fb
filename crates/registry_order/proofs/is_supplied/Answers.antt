-- `is_supplied` meets its contract: no plugin has the id, or its dependencies decide.
use Rattle.std.proofs.Common.{sym, ◌∙◌}
use Rattle.registry_order.proofs.Laws.{supplied_none, supplied_found}
use Rattle.registry_order.proofs.is_supplied.Goals as goal

pub returns-in_default : goal.returns-in_default
returns-in_default c =
    let a = c.args in
    supplied_none a.index.now.memory.now a.before.now a.id (sym c.find.ensures ∙ c.in_default.is)

pub returns : goal.returns
returns c =
    let a = c.args in
    supplied_found a.index.now.memory.now a.before.now a.id _ (sym c.find.ensures ∙ c.in-Some.is) _ c.dependency_words.ensures
    _ c.all_in_time.ensures
