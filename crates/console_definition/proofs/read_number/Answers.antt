-- `read_number` meets its contract: the next word is a number or is none, as `read_decimal` reads it.
use Rattle.console_definition.proofs.Definitions.{number_is}
use Rattle.console_definition.proofs.read_number.Goals as goal

pub returns : goal.returns
returns c = number_is c.args.bytes.now c.args.from c.next_word-word.result c.next_word-word.ensures.word _ c.read_decimal.ensures
