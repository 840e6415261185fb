-- A bad realm list and a parent that does not stand there are refused; else the lists say.
use Rattle.std.proofs.Common.{refl, sym, ◌∙◌}
use Rattle.registry_joins.proofs.Laws.{fit_bad, fit_alone, fit_orphan, fit_child}
use Rattle.registry_joins.proofs.ports_fit.Goals as goal

pub returns-then-bad_realms : goal.returns-then-bad_realms
returns-then-bad_realms c =
    let a = c.args in
    fit_bad a.m.now a.parent a.anchor a.realms.now a.provisions.now a.dependencies.now _ c.rows.ensures
    (sym c.bad_realms.ensures ∙ c.if-bad_realms.true)

pub returns-in_default : goal.returns-in_default
returns-in_default c =
    let a = c.args in
    fit_alone a.m.now a.parent a.anchor a.realms.now a.provisions.now a.dependencies.now
    _ c.rows.ensures (sym c.bad_realms.ensures ∙ c.if-bad_realms.false) c.in_default.is _ refl c.lists_fit.ensures

pub returns-in_default-find : goal.returns-in_default-find
returns-in_default-find c =
    let a = c.args in
    fit_orphan a.m.now a.parent a.anchor a.realms.now a.provisions.now a.dependencies.now
    _ c.rows.ensures (sym c.bad_realms.ensures ∙ c.if-bad_realms.false) _ c.in-Some.is (sym c.find.ensures ∙ c.in_default-find.is)

pub returns : goal.returns
returns c =
    let a = c.args in
    fit_child a.m.now a.parent a.anchor a.realms.now a.provisions.now a.dependencies.now
    _ c.rows.ensures (sym c.bad_realms.ensures ∙ c.if-bad_realms.false) _ c.in-Some.is _ (sym c.find.ensures ∙ c.in-Some-find.is)
    _ c.dependency_words-parents.ensures c.lists_fit-2.ensures
