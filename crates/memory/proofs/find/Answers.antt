-- `find` meets its contract: the first place with the id, or one behind it.
use Rattle.std.proofs.Common.{arith, sym, ◌∙◌}
use Rattle.memory.proofs.Search.{same_taken, same_free, same_none}
use Rattle.memory.proofs.find.Goals as goal

pub returns-then-is_taken : goal.returns-then-is_taken
returns-then-is_taken c = same_taken _ _ _ c.same_id-at.ensures (sym c.is_taken.ensures ∙ c.if-is_taken.true)

pub returns-then-at-lt-PLACES : goal.returns-then-at-lt-PLACES
returns-then-at-lt-PLACES c =
    c.find_from.ensures ∙ same_free _ _ _ c.same_id-at.ensures (sym c.is_taken.ensures ∙ c.if-is_taken.false) c.if-at-lt-PLACES.true

pub returns : goal.returns
returns c = same_none _ _ _ c.same_id-at.ensures (omega (arith, c.if-at-lt-PLACES.false))
