-- `resolve_key` meets its contract: the checks refuse, or the port is the one that `resolve` answers.
use Rattle.std.proofs.Common.{ap}
use Rattle.ports_realms.proofs.Lookups.{lookup_refused, lookup_found}
use Rattle.rules.specs.Holds.{default_of}
use Rattle.ports_realms.proofs.resolve_key.Goals as goal

pub returns-in_err-list_verdict : goal.returns-in_err-list_verdict
returns-in_err-list_verdict c = lookup_refused c.args.realms.now c.args.key _ _ c.from_residual.ensures.1 c.in_err-list_verdict.ensures

pub returns : goal.returns
returns c =
    let a = c.args in
    lookup_found a.realms.now a.key c.in_ok-list_verdict.ensures _ (ap default_of c.edition.ensures)
    _ c.rows.ensures _ c.absent-fallback.ensures _ c.resolve.ensures
