-- `three_lists` meets its contract: each list is read from where the last stopped, up to one that is missing.
use Rattle.std.proofs.Common.{[]}
use Rattle.console_definition.proofs.Definitions.{no_first, no_second, no_third, no_end, all_there}
use Rattle.console_definition.proofs.three_lists.Goals as goal

pub returns-in_default : goal.returns-in_default
returns-in_default c = no_first c.args.bytes.now c.args.from _ _ _ [] _ [] _ c.in_default.ensures

pub returns-in_default-list_behind : goal.returns-in_default-list_behind
returns-in_default-list_behind c =
    no_second c.args.bytes.now c.args.from _ _ _ _ _ [] _ c.in-Ok.ensures _ c.in_default-list_behind.ensures

pub returns-in_default-list_behind-2 : goal.returns-in_default-list_behind-2
returns-in_default-list_behind-2 c =
    no_third c.args.bytes.now c.args.from _ _ _ _ _ _ _ c.in-Ok.ensures _ c.in-Ok-list_behind.ensures
    _ c.in_default-list_behind-2.ensures

pub returns-then-not-ends : goal.returns-then-not-ends
returns-then-not-ends c =
    no_end c.args.bytes.now c.args.from _ _ _ _ _ _ _ c.in-Ok.ensures _ c.in-Ok-list_behind.ensures _
    c.in-Ok-list_behind-2.ensures c.if-not-ends.true

pub returns : goal.returns
returns c =
    all_there c.args.bytes.now c.args.from _ _ _ _ _ _ _ c.in-Ok.ensures _ c.in-Ok-list_behind.ensures _
    c.in-Ok-list_behind-2.ensures c.if-not-ends.false
