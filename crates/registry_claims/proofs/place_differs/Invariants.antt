-- `place_differs` meets its contract: the rows from `row` on, and the claims behind, are noted.
use Rattle.std.proofs.Common.{◌+◌, ◌*◌, ◌≤◌, ◌++◌, length, drop}
use Rattle.rules.specs.Ports.{pairs}
use Rattle.registry_claims.specs.Behind.{claims_from, Noted}
use Rattle.registry_claims.proofs.place_differs.Given as goal

abbrev pub invariant-loop-row : goal.invariant-loop-row
invariant-loop-row l =
    (l.row * 2 ≤ length l.ports) × Noted l.keys (pairs (drop (l.row * 2) l.ports) ++ claims_from l.m (l.place + 1))
