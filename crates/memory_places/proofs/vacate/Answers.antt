-- `vacate` meets its contract: a taken place's bit is in the word and is taken off it, and a free place changes nothing.
use Rattle.std.proofs.Common.{sym, ◌∙◌, arith}
use Rattle.memory_places.specs.Taken.{taken_below}
use Rattle.memory_places.proofs.Words.{taken_least, now_vacated, free_vacated}
use Rattle.memory_places.proofs.vacate.Goals as goal

pub overflow_cast-word : goal.overflow_cast-word
overflow_cast-word c = omega (arith, taken_below _ _ (sym c.is_taken.ensures ∙ c.if-is_taken.true))

pub overflow_shl-word : goal.overflow_shl-word
overflow_shl-word c = taken_below _ _ (sym c.is_taken.ensures ∙ c.if-is_taken.true)

pub overflow_sub-word : goal.overflow_sub-word
overflow_sub-word c = taken_least _ _ _ c.occupied.ensures (sym c.is_taken.ensures ∙ c.if-is_taken.true)

pub returns-then-is_taken : goal.returns-then-is_taken
returns-then-is_taken c = now_vacated _ _ _ c.occupied.ensures (sym c.is_taken.ensures ∙ c.if-is_taken.true)

pub returns-else-is_taken : goal.returns-else-is_taken
returns-else-is_taken c = free_vacated _ _ (sym c.is_taken.ensures ∙ c.if-is_taken.false)
