-- `set_value` meets its contract.
use Rattle.std.proofs.Common.{◌%◌, arith}
use Rattle.memory.specs.Layout.{places}
use Rattle.memory_values.proofs.Laws.{past_set, value_stays, value_set}
use Rattle.memory_values.proofs.set_value.Goals as goal

pub returns-then-provision-ge-PROVISION_KEYS : goal.returns-then-provision-ge-PROVISION_KEYS
returns-then-provision-ge-PROVISION_KEYS c =
    let a = c.args in
    past_set a.m.now (a.place % places) a.provision (omega arith) a.value

pub returns-then-has_value : goal.returns-then-has_value
returns-then-has_value c = value_stays _ _ _ _ c.has_value.ensures c.if-has_value.true _

pub returns : goal.returns
returns c =
    let a = c.args in
    value_set a.m.now (a.place % places) a.provision _ c.has_value.ensures c.if-has_value.false (omega arith) a.value
