-- `lowest_free` meets its contract: the complement's trailing zeros are the first free place if below 32, else there is none.
use Rattle.memory_places.specs.Bits.{zeros_fit}
use Rattle.memory_places.proofs.Words.{free_below, free_none}
use Rattle.memory_places.proofs.lowest_free.Goals as goal

pub overflow_cast-place : goal.overflow_cast-place
overflow_cast-place c = record { fits = zeros_fit _ }

pub returns-then-place-lt-PLACES : goal.returns-then-place-lt-PLACES
returns-then-place-lt-PLACES c = free_below _ _ c.occupied.ensures c.if-place-lt-PLACES.true

pub returns-else-place-lt-PLACES : goal.returns-else-place-lt-PLACES
returns-else-place-lt-PLACES c = free_none _ _ c.occupied.ensures c.if-place-lt-PLACES.false
