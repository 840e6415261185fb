-- `is_taken` meets its contract: below 32 the test is the place's bit, as the definition has it, and past it no place is taken.
use Rattle.std.proofs.Common.{lt-ltb, le-ltb}
use Rattle.memory.specs.Layout.{taken}
use Rattle.memory.proofs.is_taken.Goals as goal

pub returns-then-place-lt-PLACES : goal.returns-then-place-lt-PLACES
unfolding taken
returns-then-place-lt-PLACES c = simp (lt-ltb _ _ c.if-place-lt-PLACES.true, c.occupied.ensures)

pub returns-else-place-lt-PLACES : goal.returns-else-place-lt-PLACES
unfolding taken
returns-else-place-lt-PLACES c = simp (le-ltb _ _ c.if-place-lt-PLACES.false)
