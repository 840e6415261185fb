-- The names in the code's text are those of the table, in its order.
use Rattle.console_words.specs.Parted.{words_after}
use Rattle.console_names.proofs.operation.Goals as goal

pub returns : goal.returns
unfolding words_after
returns c = c.which.ensures
