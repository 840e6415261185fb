-- `lower` meets its contract: the three tests are the definition's, and an id is a number of 64 bits.
use Rattle.std.proofs.Common.{arith, sym, ◌∙◌}
use Rattle.memory_places.proofs.Loops.{lower_id, lower_under, lower_free, lower_over}
use Rattle.memory_places.proofs.lower.Goals as goal

pub returns-then-number-id : goal.returns-then-number-id
returns-then-number-id c =
    lower_id _ _ _ _ c.requires _ c.id-id.ensures c.id-id.type_inv c.if-id-other.true
    (sym c.is_taken.ensures ∙ c.if-is_taken.true) (omega (arith, c.if-number-id.true))

pub returns-else-number-id : goal.returns-else-number-id
returns-else-number-id c =
    lower_under _ _ _ _ c.requires _ c.id-id.ensures c.id-id.type_inv
    (sym c.is_taken.ensures ∙ c.if-is_taken.true) (omega (arith, c.if-number-id.false))

pub returns-else-is_taken : goal.returns-else-is_taken
returns-else-is_taken c =
    lower_free _ _ _ _ c.requires _ c.id-id.ensures c.id-id.type_inv (sym c.is_taken.ensures ∙ c.if-is_taken.false)

pub returns-else-id-other : goal.returns-else-id-other
returns-else-id-other c = lower_over _ _ _ _ c.requires _ c.id-id.ensures c.id-id.type_inv c.if-id-other.false
