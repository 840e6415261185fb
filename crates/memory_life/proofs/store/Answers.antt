-- `store` meets its contract: the words stored are those that `encode` promises.
use Rattle.memory.specs.Writes.{put_life}
use Rattle.memory_life.proofs.store.Goals as goal

pub returns : goal.returns
unfolding put_life
returns c = rw (← c.encode.ensures) c.store_words.ensures
