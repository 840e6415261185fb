-- `claimed_behind` meets its contract: the port is claimed from `place` on exactly if it is from i on.
use Rattle.std.proofs.Common.{arith, refl, sym, ap, ◌∙◌}
use Rattle.rules.specs.Holds.{is_in}
use Rattle.registry_claims.proofs.Behind.{claims_end, claims_free, claimed_here, claimed_behind_lem}
use Rattle.registry_claims.proofs.claimed_behind.Goals as goal
use Rattle.registry_claims.proofs.claimed_behind.Goals.{else-is_taken-via-then-is_taken+else-provides, else-is_taken-via-else-is_taken}

pub loop-i-init : goal.loop-i-init
loop-i-init c = refl

pub returns-then-provides : goal.returns-then-provides
returns-then-provides c =
    let a = c.args in
    let m = a.m.now in
    let y = claimed_here m c.loop-i.i (omega arith) (sym c.is_taken.ensures ∙ c.if-is_taken.true) a.port
    (sym c.provides.ensures ∙ c.if-provides.true) in
    sym (c.loop-i.invariant ∙ y)

pub loop-i-preserved : goal.loop-i-preserved
loop-i-preserved c =
    let a = c.args in
    let m = a.m.now in
    let i = c.loop-i.i in
    let q = a.port in
    let t = sym c.is_taken.ensures in
    c.loop-i.invariant
    ∙ elim c.else-is_taken.branch [
      | else-is_taken-via-then-is_taken+else-provides w ↦
          claimed_behind_lem m i (omega arith) (t ∙ w.if-is_taken.true) q (sym w.provides.ensures ∙ w.if-provides.false)
      | else-is_taken-via-else-is_taken w ↦ ap (is_in q) (claims_free m i (omega arith) (t ∙ w.if-is_taken.false))
    ]

pub returns : goal.returns
returns c =
    let a = c.args in
    sym (c.loop-i.invariant ∙ ap (is_in a.port) (claims_end a.m.now c.loop-i.i (omega arith)))
