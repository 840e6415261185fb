-- `is_available` meets its contract: what the table says is so, and stays so.
use Rattle.std.proofs.Common.{◌∙◌}
use Rattle.memory_keys.specs.Known.{by_provider, by_known}
use Rattle.registry_needs.proofs.Laws.{available_none, available_active}
use Rattle.registry_needs.proofs.is_available.Goals as goal

pub returns-in_default : goal.returns-in_default
returns-in_default c =
    let a = c.args in
    let k = c.requires in
    let e = c.provider_by.ensures.0 ∙ by_provider a.m.now a.port a.table.now k in (
      available_none a.m.now a.port _ e c.in_default.is,
      rw c.provider_by.ensures.1 (by_known a.m.now a.port a.table.now k),
    )

pub returns : goal.returns
returns c =
    let a = c.args in
    let k = c.requires in
    let e = c.provider_by.ensures.0 ∙ by_provider a.m.now a.port a.table.now k in (
      available_active a.m.now a.port _ e _ c.in-Some.is _ c.load.ensures _ c.is_active.ensures,
      rw c.provider_by.ensures.1 (by_known a.m.now a.port a.table.now k),
    )
