-- The provisions are tested first; where they are resolved, the dependency list says.
use Rattle.std.proofs.Common.{sym, ◌∙◌}
use Rattle.registry_joins.proofs.Laws.{lists_unresolved, lists_given}
use Rattle.registry_joins.proofs.lists_fit.Goals as goal

pub returns-else-resolved : goal.returns-else-resolved
returns-else-resolved c =
    let a = c.args in
    c.if-resolved.false
    ∙ lists_unresolved a.anchor a.realms.now a.parents.now a.provisions.now a.dependencies.now
    _ c.default_realm-other.ensures _ c.rows-rows.ensures (sym c.resolved.ensures ∙ c.if-resolved.false)

pub returns-then-resolved : goal.returns-then-resolved
returns-then-resolved c =
    let a = c.args in
    lists_given a.anchor a.realms.now a.parents.now a.provisions.now a.dependencies.now
    _ c.default_realm-other.ensures _ c.rows-rows.ensures (sym c.resolved.ensures ∙ c.if-resolved.true) c.given.ensures
