-- `value_of` meets its contract.
use Rattle.std.proofs.Common.{◌%◌, ◌∙◌}
use Rattle.memory.specs.Layout.{places}
use Rattle.rules.specs.Holds.{port}
use Rattle.memory_values.proofs.Laws.{no_value, its_value}
use Rattle.memory_values.proofs.value_of.Goals as goal

pub returns-in_default : goal.returns-in_default
returns-in_default c =
    let a = c.args in
    no_value a.m.now (a.place % places) a.port _ c.provision_words.ensures _ c.place_of.ensures
    c.in_default.is

pub returns : goal.returns
returns c =
    let a = c.args in
    c.value_at.ensures
    ∙ its_value a.m.now (a.place % places) a.port _ c.provision_words.ensures _ c.place_of.ensures _ c.in-Some.is
