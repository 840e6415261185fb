-- The keys rise from row - 1 on exactly if they rise in the whole list: the rows before it do.
use Rattle.std.proofs.Common.{◌-◌, ◌*◌, ◌≤◌, ◌≡◌, drop}
use Rattle.rules.specs.Ports.{pairs, rising}
use Rattle.ports_realms.proofs.bad_realms.Given as goal

abbrev pub invariant-loop-row : goal.invariant-loop-row
invariant-loop-row l = (1 ≤ l.row) × (rising (pairs l.rows) ≡ rising (pairs (drop (l.row * 2 - 2) l.rows)))
