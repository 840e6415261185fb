-- A key resolves to a port with that key, so only the realm is left to compare.
use Rattle.rules.specs.Ports.{pairs}
use Rattle.ports_realms.specs.Rows.{resolve_with}
use Rattle.ports_realms.specs.Halving.{reached}
use Rattle.ports_given.proofs.Answers.{resolved_realm}
use Rattle.ports_given.proofs.is_resolved.Goals as goal

pub returns : goal.returns
returns c =
    let a = c.args in
    resolved_realm a.other a.rows.now a.port.key a.port.realm
    (resolve_with (reached (pairs a.rows.now)) _ _ _ _ c.resolve-q.ensures c.new.ensures)
