-- `read_parent` meets its contract: the next word is `none`, a number, or neither, and each is a case of the definition.
use Rattle.std.proofs.Common.{sym, ◌∙◌}
use Rattle.console_definition.proofs.Definitions.{nobody, parent_of, no_parent}
use Rattle.console_definition.proofs.read_parent.Goals as goal

pub returns-then-is_word : goal.returns-then-is_word
returns-then-is_word c =
    nobody c.args.bytes.now c.args.from c.next_word-word.result c.next_word-word.ensures.word (sym c.is_word.ensures ∙ c.if-is_word.true)

pub returns-in_default : goal.returns-in_default
returns-in_default c =
    no_parent c.args.bytes.now c.args.from c.next_word-word.result c.next_word-word.ensures.word
    (sym c.is_word.ensures ∙ c.if-is_word.false) c.in_default.ensures

pub returns : goal.returns
returns c =
    parent_of c.args.bytes.now c.args.from c.next_word-word.result c.next_word-word.ensures.word
    (sym c.is_word.ensures ∙ c.if-is_word.false) c.in-Some.id c.in-Some.ensures
