-- `with_none` meets its contract: the name is one of two words, each with its call's promise, or the line is bad.
use Rattle.std.specs.Prelude.{Some}
use Rattle.std.proofs.Common.{sym, ap, ◌∙◌}
use Rattle.slot_child.specs.Slots.{slot_of}
use Rattle.console_slot.proofs.Operations.{is_reject, is_cancel, neither}
use Rattle.console_slot.proofs.with_none.Goals as goal

pub returns-then-is_word : goal.returns-then-is_word
returns-then-is_word c =
    ap Some c.reject.ensures ∙ is_reject (slot_of c.args.slot) c.args.name.now (sym c.is_word.ensures ∙ c.if-is_word.true)

pub returns-then-is_word-2 : goal.returns-then-is_word-2
returns-then-is_word-2 c =
    ap Some c.cancel.ensures ∙ is_cancel (slot_of c.args.slot) c.args.name.now (sym c.is_word.ensures ∙ c.if-is_word.false)
    (sym c.is_word-2.ensures ∙ c.if-is_word-2.true)

pub returns : goal.returns
returns c =
    neither (slot_of c.args.slot) c.args.name.now (sym c.is_word.ensures ∙ c.if-is_word.false)
    (sym c.is_word-2.ensures ∙ c.if-is_word-2.false)
