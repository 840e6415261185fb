-- `settle` meets its contract: the late checks refuse, or the plugin is written to the lowest free place.
use Rattle.std.proofs.Common.{sym, ◌∙◌}
use Rattle.std.proofs.lemmas.Result.{err_from_is_err_and}
use Rattle.registry_register.proofs.Laws.{settle_refuses, some_free, id_left, settle_writes}
use Rattle.registry_register.proofs.settle.Goals as goal

pub returns-in_err-late_verdict : goal.returns-in_err-late_verdict
returns-in_err-late_verdict c =
    let a = c.args in
    let p = err_from_is_err_and c.from_residual.result c.from_residual.ensures.1 in
    rw (p.1, p.2) (settle_refuses a.m.now a.parent a.payload a.count a.dependencies.now a.claims.now
    a.realms.now _ c.rows_in_use-used.ensures _ c.in_err-late_verdict.ensures)

pub returns-in_default : goal.returns-in_default
returns-in_default c =
    let a = c.args in
    absurd (some_free a.m.now a.parent a.payload a.count a.dependencies.now a.claims.now
    a.realms.now _ c.rows_in_use-used.ensures c.in_ok-late_verdict.ensures (sym c.lowest_free.ensures ∙ c.in_default.is))

pub entry-e-requires : goal.entry-e-requires
entry-e-requires c =
    let a = c.args in
    record {
      not_last = id_left a.m.now a.parent a.payload a.count a.dependencies.now a.claims.now
          a.realms.now _ c.rows_in_use-used.ensures c.in_ok-late_verdict.ensures;
      at_end = c.rows_in_use-used.ensures;
    }

pub returns : goal.returns
returns c =
    let a = c.args in
    settle_writes a.m.now a.parent a.payload a.count a.dependencies.now a.claims.now
    a.realms.now _ c.rows_in_use-used.ensures
    c.in_ok-late_verdict.ensures _ (sym c.lowest_free.ensures ∙ c.in-Some.is) _ c.rows-rows.ensures _ c.edition.ensures
    _ c.behind_anchor.ensures _ c.entry-e.ensures _ c.fill_place.ensures
