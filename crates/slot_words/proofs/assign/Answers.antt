-- `assign` meets its contract. Assumes nothing.
use Rattle.std.proofs.Common.{◌∙◌, ap, sym}
use Rattle.rules.specs.Slot as rules
use Rattle.slot_child.specs.declared.Slot.{Slot}
use Rattle.slot_child.specs.Slots.{identity_of, slot_of}
use Rattle.slot_words.specs.Words.{slot_at, decides}
use Rattle.slot_words.proofs.Laws.{stranger}
use Rattle.slot_words.proofs.assign.Goals as goal

pub returns-then-not-is_of : goal.returns-then-not-is_of
unfolding slot_at
returns-then-not-is_of c = stranger _ _ _ (sym c.is_of.ensures ∙ c.if-not-is_of.true)

pub returns : goal.returns
returns c =
    let one = ap (λ (x : Slot). rules.assign (slot_of x) (identity_of c.args.child)) c.load.ensures in
    decides _ _ _ _ _ (c.assign.ensures ∙ one) c.decided.ensures
