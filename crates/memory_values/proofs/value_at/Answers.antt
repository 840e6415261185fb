-- `value_at` meets its contract.
use Rattle.std.proofs.Common.{◌%◌, arith}
use Rattle.memory.specs.Layout.{places}
use Rattle.memory_values.proofs.Laws.{value_under, value_is, value_not}
use Rattle.memory_values.proofs.value_at.Goals as goal

-- what has a value is one of the 15
pub overflow_add-result-then-has_value : goal.overflow_add-result-then-has_value
overflow_add-result-then-has_value c = omega (arith, value_under _ _ _ _ c.has_value.ensures c.if-has_value.true)

pub offset_bounds-m-b : goal.offset_bounds-m-b
offset_bounds-m-b c = omega (arith, value_under _ _ _ _ c.has_value.ensures c.if-has_value.true)

pub bounds-m-b : goal.bounds-m-b
bounds-m-b c = omega (arith, value_under _ _ _ _ c.has_value.ensures c.if-has_value.true)

pub returns-then-has_value : goal.returns-then-has_value
returns-then-has_value c =
    let a = c.args in
    value_is a.m.now (a.place % places) a.provision _ c.has_value.ensures c.if-has_value.true

pub returns-else-has_value : goal.returns-else-has_value
returns-else-has_value c =
    let a = c.args in
    value_not a.m.now (a.place % places) a.provision _ c.has_value.ensures c.if-has_value.false
