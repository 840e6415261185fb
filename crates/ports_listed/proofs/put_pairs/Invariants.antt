-- `put_pairs` meets its contract. The invariant: out starts with the first rows' numbers, and its rest stays.
use Rattle.std.proofs.Common.{◌≡◌, ◌++◌, ◌*◌, length, take, drop}
use Rattle.ports_listed.proofs.put_pairs.Given as goal

abbrev pub invariant-loop-row : goal.invariant-loop-row
invariant-loop-row l = (length l.out ≡ length l.initial.out) × (l.out ≡ take (l.row * 2) l.ports ++ drop (l.row * 2) l.initial.out)
