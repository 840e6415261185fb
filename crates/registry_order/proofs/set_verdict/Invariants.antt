-- `set_verdict` meets its contract: the ids so far pass, and are those found at the places seen.
use Rattle.std.proofs.Common.{◌≡◌, take, drop}
use Rattle.rules.specs.Answers.{verdict}
use Rattle.rules.specs.Orders.{set_checks, checks_behind}
use Rattle.memory.specs.View.{view}
use Rattle.registry_order.proofs.Seen.{Seen}
use Rattle.registry_order.proofs.set_verdict.Given as goal

abbrev pub invariant-loop-id : goal.invariant-loop-id
invariant-loop-id l =
    Seen l.m (take l.id-index l.set) l.seen
    × (verdict (set_checks (view l.m) l.set) ≡ verdict (checks_behind (view l.m) (take l.id-index l.set) (drop l.id-index l.set)))
