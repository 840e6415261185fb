-- `is_in_time` meets its contract: by the index the port's provider is found.
use Rattle.registry_order.proofs.Laws.{in_time_none, in_time_active, in_time_named}
use Rattle.registry_order.proofs.is_in_time.Goals as goal

pub returns-in_default : goal.returns-in_default
returns-in_default c =
    let a = c.args in
    in_time_none a.index.now.memory.now a.before.now a.port _ c.provider.ensures c.in_default.is

pub returns-then-is_active : goal.returns-then-is_active
returns-then-is_active c =
    let a = c.args in
    in_time_active a.index.now.memory.now a.before.now a.port _ c.provider.ensures _ c.in-Some.is _ c.load.ensures
    _ c.is_active.ensures c.if-is_active.true

pub returns-else-is_active : goal.returns-else-is_active
returns-else-is_active c =
    let a = c.args in
    in_time_named a.index.now.memory.now a.before.now a.port _ c.provider.ensures _ c.in-Some.is _ c.load.ensures
    _ c.is_active.ensures c.if-is_active.false _ c.id.ensures _ c.has_number.ensures
