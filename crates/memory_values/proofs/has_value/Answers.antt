-- `has_value` meets its contract.
use Rattle.std.proofs.Common.{◌%◌, arith}
use Rattle.memory.specs.Layout.{places}
use Rattle.memory_values.proofs.Laws.{past_has, below_has}
use Rattle.memory_values.proofs.has_value.Goals as goal

pub returns-then-provision-lt-PROVISION_KEYS : goal.returns-then-provision-lt-PROVISION_KEYS
returns-then-provision-lt-PROVISION_KEYS c =
    let a = c.args in
    below_has a.m.now (a.place % places) a.provision (omega arith)

pub returns-else-provision-lt-PROVISION_KEYS : goal.returns-else-provision-lt-PROVISION_KEYS
returns-else-provision-lt-PROVISION_KEYS c =
    let a = c.args in
    past_has a.m.now (a.place % places) a.provision (omega arith)
