-- `slot_line` meets its contract: a word that is no number makes the line bad, and else `decided_by` has the name and the numbers.
use Rattle.slot_child.specs.Slots.{slot_of}
use Rattle.console_names.specs.Behind.{no_numbers, all_numbers}
use Rattle.console_slot.proofs.Lines.{same_after, bad_line_lem, named_line_lem}
use Rattle.console_slot.proofs.slot_line.Goals as goal

pub returns-in_default : goal.returns-in_default
returns-in_default c =
    let x = c.args in
    let w = c.next_word-word in
    same_after _ _ _ _ (bad_line_lem x.page.now (slot_of x.slot) x.bytes.now x.from w.result w.ensures.word
    (no_numbers x.bytes.now w.result.stop _ _ _ c.in_default.ensures)) c.after.ensures

pub returns : goal.returns
returns c =
    let x = c.args in
    let w = c.next_word-word in
    same_after _ _ _ _ (named_line_lem x.page.now (slot_of x.slot) x.bytes.now x.from w.result
    w.ensures.word _ (all_numbers x.bytes.now w.result.stop _ _ c.in-Ok.count c.in-Ok.ensures)
    _ c.decided_by-decided.ensures) c.after-2.ensures
