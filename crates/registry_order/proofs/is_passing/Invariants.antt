-- `is_passing` meets its contract: the ids before place i follow.
use Rattle.std.proofs.Common.{◌≡◌, take, drop}
use Rattle.rules.specs.Orders.{passes}
use Rattle.rules_orders.specs.Follows.{follow}
use Rattle.memory.specs.View.{view}
use Rattle.registry_order.proofs.is_passing.Given as goal

abbrev pub invariant-loop-i : goal.invariant-loop-i
invariant-loop-i l = passes (view l.m) l.set l.order ≡ follow (view l.m) l.set (take l.i l.order) (drop l.i l.order)
