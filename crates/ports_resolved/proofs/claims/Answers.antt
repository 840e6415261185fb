-- The anchor and the ports of the first i keys stand in front.
use Rattle.std.proofs.Common.{arith, ◌+◌, ◌≡◌, ap, ◌∙◌, [], ◌∷◌, min, length, take}
use Rattle.rules.specs.Ports.{pairs, resolve_in}
use Rattle.rules.specs.Limits.{max_provision_keys}
use Rattle.ports_realms.specs.Rows.{resolve_with}
use Rattle.ports_realms.specs.Halving.{reached}
use Rattle.ports_resolved.specs.Filled.{lists_key}
use Rattle.std.proofs.lemmas.List.{take_min}
use Rattle.ports_resolved.proofs.claims.Goals as goal

pub loop-i-preserved : goal.loop-i-preserved
loop-i-preserved c =
    let a = c.args in
    let f = resolve_in a.other (reached (pairs a.rows.now)) in
    let e = resolve_with (reached (pairs a.rows.now)) _ _ _ _ c.resolve-q.ensures c.new.ensures in
    lists_key f (a.anchor ∷ []) a.keys.now c.loop-i.i c.loop-i.invariant (omega arith) e (omega arith) (omega arith) (omega arith)

pub returns : goal.returns
returns c =
    let keys = c.args.keys.now in
    let all : c.loop-i.i ≡ min max_provision_keys (length keys) = omega arith in
    let count : c.min-provisions.result + 1 ≡ c.loop-i.i + 1 = omega arith in
    let r = rw (ap (λ n. take n keys) all ∙ take_min max_provision_keys keys) at c.loop-i.invariant in
    λ k. record { count = (count ∙ r.counted) k; ports = r.numbers k }
