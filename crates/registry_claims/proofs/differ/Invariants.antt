-- `differ` meets its contract: the claims from place i on are noted.
use Rattle.registry_claims.specs.Behind.{claims_from, Noted}
use Rattle.registry_claims.proofs.differ.Given as goal

abbrev pub invariant-loop-i : goal.invariant-loop-i
invariant-loop-i l = Noted l.keys (claims_from l.m l.i)
