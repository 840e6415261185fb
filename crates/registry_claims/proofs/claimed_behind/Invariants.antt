-- `claimed_behind` meets its contract: the port is claimed from `place` on exactly if it is from i on.
use Rattle.std.proofs.Common.{◌≡◌}
use Rattle.rules.specs.Holds.{is_in}
use Rattle.registry_claims.specs.Behind.{claims_from}
use Rattle.registry_claims.proofs.claimed_behind.Given as goal

abbrev pub invariant-loop-i : goal.invariant-loop-i
invariant-loop-i l = is_in l.port (claims_from l.m l.place) ≡ is_in l.port (claims_from l.m l.i)
