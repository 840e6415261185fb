-- `register` meets its contract: the early checks refuse, the claimed ports are refused, or `settle` says.
use Rattle.std.proofs.lemmas.Result.{err_from_is_err_and}
use Rattle.registry_register.proofs.Whole.{early_told, claims_told, settled_told}
use Rattle.registry_register.proofs.register.Goals as goal

pub returns-in_err-above : goal.returns-in_err-above
returns-in_err-above c =
    let a = c.args in
    let p = err_from_is_err_and c.from_residual.result c.from_residual.ensures.1 in
    rw (p.1, p.2) (early_told a.m.now a.parent a.anchor a.realms.now a.dependencies.now a.provisions.now
    a.payload _ c.in_err-above.ensures)

pub returns-in_err-claim_verdict : goal.returns-in_err-claim_verdict
returns-in_err-claim_verdict c =
    let a = c.args in
    let p = err_from_is_err_and c.from_residual-in_err-claim_verdict.result c.from_residual-in_err-claim_verdict.ensures.1 in
    rw (p.1, p.2) (claims_told a.m.now a.parent a.anchor a.realms.now a.dependencies.now a.provisions.now
    a.payload _ c.in_ok-above.ensures _ c.claimed-own.ensures _ c.first_rows-claims.ensures _ c.in_err-claim_verdict.ensures)

pub returns : goal.returns
returns c =
    let a = c.args in
    settled_told a.m.now a.parent a.anchor a.realms.now a.dependencies.now a.provisions.now
    a.payload _ c.in_ok-above.ensures _ c.claimed-own.ensures _ c.first_rows-claims.ensures c.in_ok-claim_verdict.ensures
    _ c.listed-list.ensures _ c.first_rows.ensures
    c.settle.result c.settle.ensures.0 _ c.settle.ensures.1
