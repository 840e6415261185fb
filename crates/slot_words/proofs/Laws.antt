-- The last arm of each code, and what a decision leaves. Assumes nothing.
use Rattle.std.specs.Prelude.{Some, Ok, Err}
use Prim.Native.Nat.{ℕ, zero, suc}
use mathlib.Core.Path.{◌≡◌, refl, sym}
use mathlib.Core.Bool.{false}
use mathlib.Core.List.{List}
use Rattle.rules.specs.Retirement as retirement
use Rattle.rules.specs.Slot as rules
use Rattle.slot_child.specs.declared.Identity.{Identity}
use Rattle.slot_child.specs.declared.Decision.TheVariants.{Cancelled}
use Rattle.rules.specs.Refusals.{Refusal, InvalidState}
use Rattle.rules.specs.Answers.{done_answer}
use Rattle.slot_child.specs.declared.Decided.{Decided}
use Rattle.slot_child.specs.Slots.{is_of, decision_of, decided_of, refused_of, foreign}
use Rattle.slot_words.specs.Words.{generation_in, decision_in, put_decision, slot_after, Decides, decides}

pub generation_rest : (n g : ℕ) → (n ≡ 0 → ⊥) → Some g ≡ generation_in n g
generation_rest zero g h = absurd (h refl)
generation_rest (suc n) g h = refl

pub decision_rest : (n : ℕ) (c : Identity) → (n ≡ 0 → ⊥) → (n ≡ 1 → ⊥) → (n ≡ 2 → ⊥) → Cancelled ≡ decision_in n c
decision_rest zero c f g h = absurd (f refl)
decision_rest (suc zero) c f g h = absurd (g refl)
decision_rest (suc (suc zero)) c f g h = absurd (h refl)
decision_rest (suc (suc (suc n))) c f g h = refl

module _ (d : Decided) (m : List ℕ) where
  pub taken : (m' : List ℕ) → d.verdict ≡ Ok tt → m' ≡ put_decision m (decision_of d.slot.decision) → Decides (decided_of d) m (done_answer (Ok tt)) m'
  unfolding slot_after
  taken m' e p = (rw e, rw e p)

  pub refused : (x : Refusal) → d.verdict ≡ Err x → Decides (decided_of d) m (done_answer (Err x)) m
  unfolding slot_after
  refused x e = (rw e, rw e)

-- A child of another origin leaves the words.
pub stranger : (s : rules.Slot) (c : retirement.Identity) (m : List ℕ) → is_of c s.domain s.parent ≡ false
    → Decides (rules.assign s c) m (done_answer (Err InvalidState)) m
unfolding slot_after
stranger s c m e = decides (refused_of s) (rules.assign s c) m _ _ (sym (foreign s c e)) (refl, refl)
