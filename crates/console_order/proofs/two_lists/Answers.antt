-- `two_lists` meets its contract: the second list is read from where the first stopped.
use Rattle.console_order.proofs.Laws.{no_set, no_order, more_behind, both_there}
use Rattle.console_order.proofs.two_lists.Goals as goal

pub returns-in_default : goal.returns-in_default
returns-in_default c = no_set c.args.bytes.now c.args.from _ _ c.args.order.now c.args.order.now _ c.in_default.ensures

pub returns-in_default-list_behind : goal.returns-in_default-list_behind
returns-in_default-list_behind c =
    no_order c.args.bytes.now c.args.from _ _ _ _ _ c.in-Ok.ensures _ c.in_default-list_behind.ensures

pub returns-then-not-ends : goal.returns-then-not-ends
returns-then-not-ends c =
    more_behind c.args.bytes.now c.args.from _ _ _ _ _ c.in-Ok.ensures _ c.in-Ok-list_behind.ensures c.if-not-ends.true

pub returns : goal.returns
returns c =
    both_there c.args.bytes.now c.args.from _ _ _ _ _ c.in-Ok.ensures _ c.in-Ok-list_behind.ensures c.if-not-ends.false
