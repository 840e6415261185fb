-- `reject` meets its contract. Assumes nothing.
use Rattle.std.proofs.Common.{◌∙◌, ap}
use Rattle.rules.specs.Slot as rules
use Rattle.slot_child.specs.declared.Slot.{Slot}
use Rattle.slot_child.specs.Slots.{slot_of}
use Rattle.slot_words.specs.Words.{decides}
use Rattle.slot_words.proofs.reject.Goals as goal

pub returns : goal.returns
returns c = decides _ _ _ _ _ (c.reject.ensures ∙ ap (λ (x : Slot). rules.reject (slot_of x)) c.load.ensures)
    c.decided.ensures
