-- `store` meets its contract. Assumes nothing.
use Rattle.std.proofs.Common.{ℕ, ◌∙◌, ap, List}
use Rattle.slot_child.specs.Slots.{decision_of}
use Rattle.slot_words.specs.Words.{put_decision, put_slot}
use Rattle.slot_words.proofs.store.Goals as goal

pub returns : goal.returns
unfolding put_slot
returns c = c.put_decision.ensures
    ∙ ap (λ (m : List ℕ). put_decision m (decision_of c.args.slot.decision)) c.put_generation.ensures
