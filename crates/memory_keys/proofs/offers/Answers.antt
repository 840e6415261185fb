-- `offers` meets its contract: a place whose word lacks the bit, one that is free, and one that is looked at.
use Rattle.std.proofs.Common.{arith, sym, ap, ◌∙◌}
use Rattle.rules.specs.Holds.{port}
use Rattle.memory_keys.proofs.Laws.{bit_not_there, free_place_lem, port_there, port_not_there}
use Rattle.memory_keys.proofs.offers.Goals as goal

pub returns-then-not-has_bit : goal.returns-then-not-has_bit
returns-then-not-has_bit c = bit_not_there _ _ _ _ (sym c.has_bit.ensures ∙ c.if-not-has_bit.true)

pub returns-then-not-is_taken : goal.returns-then-not-is_taken
returns-then-not-is_taken c =
    let a = c.args in
    free_place_lem a.m.now a.table.now a.place a.port
    (sym c.has_bit.ensures ∙ c.if-not-has_bit.false) (sym c.is_taken.ensures ∙ c.if-not-is_taken.true)

pub returns-in_default : goal.returns-in_default
returns-in_default c =
    port_there _ _ _ _ (sym c.has_bit.ensures ∙ c.if-not-has_bit.false) (omega arith)
    (sym c.is_taken.ensures ∙ c.if-not-is_taken.false) (sym (c.in_default.is) ∙ c.keys_without.ensures)

pub returns : goal.returns
returns c =
    let a = c.args in
    port_not_there a.m.now a.table.now a.place a.port
    (sym c.has_bit.ensures ∙ c.if-not-has_bit.false) (omega arith)
    (sym c.is_taken.ensures ∙ c.if-not-is_taken.false) _ (sym (c.in-Some.is) ∙ c.keys_without.ensures)
