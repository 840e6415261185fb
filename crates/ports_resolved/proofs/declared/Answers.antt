-- The ports of the keys from i on are still to be stored.
use Rattle.std.proofs.Common.{arith, ◌∙◌, length-take}
use Rattle.rules.specs.Ports.{pairs, resolve_in}
use Rattle.rules.specs.Limits.{max_dependency_keys}
use Rattle.ports_realms.specs.Rows.{resolve_with}
use Rattle.ports_realms.specs.Halving.{reached}
use Rattle.ports_resolved.proofs.Laws.{stored_next, stored_all}
use Rattle.ports_resolved.proofs.declared.Goals as goal

pub loop-i-preserved : goal.loop-i-preserved
loop-i-preserved c =
    let a = c.args in
    let f = resolve_in a.other (reached (pairs a.rows.now)) in
    let e = resolve_with (reached (pairs a.rows.now)) _ _ _ _ c.resolve-q.ensures c.new.ensures in
    c.loop-i.invariant ∙ stored_next f a.keys.now c.loop-i.list c.loop-i.i _ (omega arith) (omega arith) e

pub returns : goal.returns
returns c =
    let a = c.args in
    stored_all (resolve_in a.other (reached (pairs a.rows.now))) a.keys.now c.loop-i.list
    c.loop-i.i _ _ (omega (arith, length-take max_dependency_keys a.keys.now)) (omega (arith, length-take max_dependency_keys a.keys.now))
    c.loop-i.invariant
