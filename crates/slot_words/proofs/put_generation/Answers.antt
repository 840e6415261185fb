-- `put_generation` meets its contract. Assumes nothing.
use Rattle.slot_words.specs.Words.{put_generation}
use Rattle.slot_words.proofs.put_generation.Goals as goal

pub returns-in-Some : goal.returns-in-Some
unfolding put_generation
returns-in-Some c = rw c.in-Some.is

pub returns-in-None : goal.returns-in-None
unfolding put_generation
returns-in-None c = rw c.in-None.is
