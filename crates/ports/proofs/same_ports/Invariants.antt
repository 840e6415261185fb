-- The ports before a row are the same; a number that differs makes two ports differ.
use Rattle.std.proofs.Common.{◌*◌, ◌≡◌, take}
use Rattle.ports.proofs.same_ports.Given as goal

abbrev pub invariant-loop-row : goal.invariant-loop-row
invariant-loop-row l = take (l.row * 2) l.list ≡ take (l.row * 2) l.ports
