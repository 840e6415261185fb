-- `with_three` meets its contract: the name is one of three words, each with its call's promise, or the line is bad.
use Rattle.std.specs.Prelude.{Some}
use Rattle.std.proofs.Common.{sym, ap, ◌∙◌}
use Rattle.slot_child.specs.Slots.{identity_of, slot_of}
use Rattle.console_slot.proofs.Operations.{new_decides, is_pending_lem, is_assigned, is_assign, no_name}
use Rattle.console_slot.proofs.with_three.Goals as goal

pub returns-then-is_word : goal.returns-then-is_word
returns-then-is_word c =
    ap Some c.new_slot.ensures ∙ ap new_decides c.pending.ensures
    ∙ is_pending_lem (slot_of c.args.slot) c.args.name.now (identity_of c.args.child) (sym c.is_word.ensures ∙ c.if-is_word.true)

pub returns-then-is_word-2 : goal.returns-then-is_word-2
returns-then-is_word-2 c =
    ap Some c.new_slot-then-is_word-2.ensures ∙ ap new_decides c.assigned.ensures
    ∙ is_assigned (slot_of c.args.slot) c.args.name.now (identity_of c.args.child)
    (sym c.is_word.ensures ∙ c.if-is_word.false) (sym c.is_word-2.ensures ∙ c.if-is_word-2.true)

pub returns-then-is_word-3 : goal.returns-then-is_word-3
returns-then-is_word-3 c =
    ap Some c.assign.ensures ∙ is_assign (slot_of c.args.slot) c.args.name.now (identity_of c.args.child)
    (sym c.is_word.ensures ∙ c.if-is_word.false) (sym c.is_word-2.ensures ∙ c.if-is_word-2.false)
    (sym c.is_word-3.ensures ∙ c.if-is_word-3.true)

pub returns : goal.returns
returns c =
    no_name (slot_of c.args.slot) c.args.name.now (identity_of c.args.child) (sym c.is_word.ensures ∙ c.if-is_word.false)
    (sym c.is_word-2.ensures ∙ c.if-is_word-2.false) (sym c.is_word-3.ensures ∙ c.if-is_word-3.false)
