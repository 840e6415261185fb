-- `load` meets its contract: what `decode` makes of the words that `load_words` gives is the life.
use Rattle.std.proofs.Common.{◌∙◌, ap}
use Rattle.memory.specs.View.{decoded, life_at}
use Rattle.memory_life.proofs.load.Goals as goal

pub returns : goal.returns
unfolding life_at
returns c = c.decode.ensures ∙ ap decoded c.load_words.ensures
