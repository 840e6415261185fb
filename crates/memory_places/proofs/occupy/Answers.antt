-- `occupy` meets its contract: a place past the last or taken changes nothing, and a free one gets its bit.
use Rattle.std.proofs.Common.{sym, ◌∙◌, arith, rules}
use Rattle.memory_places.proofs.Words.{or_small, past_occupied, taken_occupied, now_occupied}
use Rattle.memory_places.proofs.occupy.Goals as goal

pub returns-then-place-ge-PLACES : goal.returns-then-place-ge-PLACES
returns-then-place-ge-PLACES c = past_occupied _ _ c.if-place-ge-PLACES.true

pub returns-then-is_taken : goal.returns-then-is_taken
returns-then-is_taken c = taken_occupied _ _ (sym c.is_taken.ensures ∙ c.if-is_taken.true)

pub overflow_cast-m : goal.overflow_cast-m
overflow_cast-m c = record { fits = or_small c.occupied.result _ (search rules) }

pub returns : goal.returns
returns c = now_occupied _ _ _ c.occupied.ensures (omega arith) (sym c.is_taken.ensures ∙ c.if-is_taken.false)
