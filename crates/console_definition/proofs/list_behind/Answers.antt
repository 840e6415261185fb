-- `list_behind` meets its contract: the next word is the name, and its list is what `numbers` gathers, or the list is missing.
use Rattle.std.proofs.Common.{sym, ◌∙◌}
use Rattle.console_definition.proofs.Definitions.{list_here, list_missing}
use Rattle.console_definition.proofs.list_behind.Goals as goal

pub returns-then-not-is_word : goal.returns-then-not-is_word
returns-then-not-is_word c =
    list_missing c.args.bytes.now c.args.from c.next_word-word.result c.next_word-word.ensures.word c.args.name.now c.args.numbers.now
    (sym c.is_word.ensures ∙ c.if-not-is_word.true)

pub returns : goal.returns
returns c =
    list_here c.args.bytes.now c.args.from c.next_word-word.result c.next_word-word.ensures.word c.args.name.now
    c.args.numbers.now _ c.numbers.result (sym c.is_word.ensures ∙ c.if-not-is_word.false) c.numbers.ensures
