-- By the turn, and by whether the key resolves to the port's own realm.
use Rattle.std.proofs.Common.{ap}
use Rattle.rules_types.specs.declared.Port.{Port}
use Rattle.rules.specs.Ports.{pairs}
use Rattle.ports_realms.specs.Rows.{resolve_with}
use Rattle.ports_realms.specs.Halving.{reached}
use Rattle.ports_resolved.proofs.Laws.{second_turn, both_turns, first_turn}
use Rattle.ports_resolved.proofs.candidate.Goals as goal

pub returns-then-again : goal.returns-then-again
returns-then-again c =
    let a = c.args in
    let e = resolve_with (reached (pairs a.rows.now)) _ _ _ _ c.resolve-q.ensures c.new.ensures in
    second_turn a.other (reached (pairs a.rows.now)) a.key a.turn a.realm (ap (λ (q : Port). q.realm) e) c.if-again.true

pub returns-then-q-realm : goal.returns-then-q-realm
returns-then-q-realm c =
    let a = c.args in
    let e = resolve_with (reached (pairs a.rows.now)) _ _ _ _ c.resolve-q.ensures c.new.ensures in
    both_turns a.other (reached (pairs a.rows.now)) a.key a.turn a.realm (ap (λ (q : Port). q.realm) e) c.if-again.false
    c.if-q-realm.true

pub returns : goal.returns
returns c =
    let a = c.args in
    let e = resolve_with (reached (pairs a.rows.now)) _ _ _ _ c.resolve-q.ensures c.new.ensures in
    first_turn a.other (reached (pairs a.rows.now)) a.key a.turn a.realm (ap (λ (q : Port). q.realm) e) c.if-again.false
    c.if-q-realm.false
