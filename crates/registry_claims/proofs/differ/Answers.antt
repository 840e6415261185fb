-- `differ` meets its contract: the claims from place i on are noted.
use Rattle.std.proofs.Common.{◌+◌, ◌-◌, arith, ◌≡◌, refl}
use Rattle.registry_claims.proofs.Behind.{all_differ, two_alike}
use Rattle.registry_claims.proofs.Noted.{noted_end}
use Rattle.registry_claims.proofs.differ.Goals as goal

pub loop-i-init : goal.loop-i-init
loop-i-init c = noted_end _ _ refl

pub place_differs-requires : goal.place_differs-requires
place_differs-requires c =
    let at = c.loop-i in
    let e : at.i - 1 + 1 ≡ at.i = omega arith in
    (omega arith, rw e at.invariant)

pub returns-then-not-place_differs : goal.returns-then-not-place_differs
returns-then-not-place_differs c = two_alike _ _ (omega arith) (c.place_differs.ensures.repeated c.if-not-place_differs.true)

pub loop-i-preserved : goal.loop-i-preserved
loop-i-preserved c = c.place_differs.ensures.differs c.if-not-place_differs.false

pub returns : goal.returns
returns c = all_differ _ _ c.loop-i-test.false c.loop-i.invariant.apart
