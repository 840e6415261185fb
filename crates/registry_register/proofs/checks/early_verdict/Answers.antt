-- `early_verdict` meets its contract: each return is a check that refuses, and the last is none.
use Rattle.std.proofs.Common.{sym, ◌∙◌}
use Rattle.std.proofs.lemmas.Result.{err_from_is_err_and}
use Rattle.memory.specs.View.{view}
use Rattle.registry_register.specs.Verdicts.{asked, place_above}
use Rattle.registry_register.proofs.checks.Laws.{early_list, early_dependencies, early_provisions, early_parent, early_repeated, early_pass}
use Rattle.registry_register.proofs.checks.early_verdict.Goals as goal

pub returns-in_err-list_verdict : goal.returns-in_err-list_verdict
returns-in_err-list_verdict c =
    let a = c.args in
    let p = err_from_is_err_and c.from_residual.result c.from_residual.ensures.1 in
    rw (p.1, p.2) (early_list (view a.m.now) (asked a.parent a.realms.now a.dependencies.now a.provisions.now)
    (place_above a.m.now a.parent) _ c.in_err-list_verdict.ensures)

pub returns-then-dependencies-gt-DEPENDENCY_KEYS : goal.returns-then-dependencies-gt-DEPENDENCY_KEYS
returns-then-dependencies-gt-DEPENDENCY_KEYS c =
    let a = c.args in
    early_dependencies (view a.m.now) (asked a.parent a.realms.now a.dependencies.now a.provisions.now)
    (place_above a.m.now a.parent) c.in_ok-list_verdict.ensures c.if-dependencies-gt-DEPENDENCY_KEYS.true

pub returns-then-provisions-gt-PROVISION_KEYS : goal.returns-then-provisions-gt-PROVISION_KEYS
returns-then-provisions-gt-PROVISION_KEYS c =
    let a = c.args in
    early_provisions (view a.m.now) (asked a.parent a.realms.now a.dependencies.now a.provisions.now)
    (place_above a.m.now a.parent) c.in_ok-list_verdict.ensures c.if-dependencies-gt-DEPENDENCY_KEYS.false
    c.if-provisions-gt-PROVISION_KEYS.true

pub returns-in_err-above : goal.returns-in_err-above
returns-in_err-above c =
    let a = c.args in
    let p = err_from_is_err_and c.from_residual-in_err-above.result c.from_residual-in_err-above.ensures.1 in
    rw (p.1, p.2) (early_parent (view a.m.now) (asked a.parent a.realms.now a.dependencies.now a.provisions.now)
    (place_above a.m.now a.parent) c.in_ok-list_verdict.ensures c.if-dependencies-gt-DEPENDENCY_KEYS.false
    c.if-provisions-gt-PROVISION_KEYS.false _ c.in_err-above.ensures)

pub returns-then-repeated_key : goal.returns-then-repeated_key
returns-then-repeated_key c =
    let a = c.args in
    early_repeated (view a.m.now) (asked a.parent a.realms.now a.dependencies.now a.provisions.now)
    (place_above a.m.now a.parent) c.in_ok-list_verdict.ensures c.if-dependencies-gt-DEPENDENCY_KEYS.false
    c.if-provisions-gt-PROVISION_KEYS.false _ c.in_ok-above.ensures (sym c.repeated_key.ensures ∙ c.if-repeated_key.true)

pub returns : goal.returns
returns c =
    let a = c.args in
    early_pass (view a.m.now) (asked a.parent a.realms.now a.dependencies.now a.provisions.now)
    (place_above a.m.now a.parent) c.in_ok-list_verdict.ensures c.if-dependencies-gt-DEPENDENCY_KEYS.false
    c.if-provisions-gt-PROVISION_KEYS.false _ c.in_ok-above.ensures (sym c.repeated_key.ensures ∙ c.if-repeated_key.false)
