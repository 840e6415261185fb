-- No port before the row stands again behind itself.
use Rattle.std.proofs.Common.{◌*◌, ◌≡◌, drop}
use Rattle.rules.specs.Ports.{pairs}
use Rattle.rules.specs.Registration.{repeats}
use Rattle.ports.proofs.repeated.Given as goal

abbrev pub invariant-loop-row : goal.invariant-loop-row
invariant-loop-row l = repeats (pairs l.ports) ≡ repeats (pairs (drop (l.row * 2) l.ports))
