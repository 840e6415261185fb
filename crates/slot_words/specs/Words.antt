-- Where a child slot's eight words are, and what they say: whatever the words are, they are a slot.
use Rattle.std.specs.Prelude.{ℕ, zero, suc, ◌≡◌, refl, true, false, ◌&&◌, Option, Some, None}
use Rattle.std.proofs.Common.{ap, ◌∙◌, arith}
use Rattle.std.proofs.Math.Bool.{Bool}
use mathlib.Core.List.{List, [], ◌∷◌}
use Rattle.std.proofs.Math.ListN.{length}
use Rattle.rules.specs.Basics.{pick}
use Rattle.rules.specs.Refusals.{number, InvalidState}
use Rattle.rules.specs.Outcomes.{Answer, Refused, Accepted}
use Rattle.rules.specs.Retirement as retirement
use Rattle.rules.specs.Slot as rules
use Rattle.slot_child.specs.declared.Identity.{Identity}
use Rattle.slot_child.specs.declared.Decision.{Decision}
use Rattle.slot_child.specs.declared.Decision.TheVariants.{Pending, Assigned, Failed, Cancelled}
use Rattle.slot_child.specs.declared.Slot.{Slot}
use Rattle.slot_child.specs.Slots.{slot_of}
use Rattle.memory.specs.Layout.{word}
use Rattle.memory.specs.Writes.{puts}
use Rattle.memory.specs.Frames.{puts_length}

abbrev pub generation_in : ℕ → ℕ → Option ℕ
generation_in zero g = None
generation_in (suc n) g = Some g

abbrev pub decision_in : ℕ → Identity → Decision
decision_in zero c = Pending
decision_in (suc zero) c = Assigned c
decision_in (suc (suc zero)) c = Failed
decision_in (suc (suc (suc n))) c = Cancelled

-- words 0 to 7: domain, parent, whether there is a generation, generation, decision, the assigned domain, parent and id
unfoldable pub slot_at : List ℕ → Slot
slot_at m = record {
  domain = word m 0;
  parent = word m 1;
  generation = generation_in (word m 2) (word m 3);
  decision = decision_in (word m 4) (record { domain = word m 5; parent = word m 6; id = word m 7 });
}

-- Only the words that say something are put; the others stay as they were.
abbrev pub generation_words : Option ℕ → List ℕ
generation_words None = 0 ∷ []
generation_words (Some g) = 1 ∷ g ∷ []

abbrev pub decision_words : rules.Decision → List ℕ
decision_words rules.Pending = 0 ∷ []
decision_words (rules.Assigned c) = 1 ∷ c.domain ∷ c.parent ∷ c.id ∷ []
decision_words rules.Failed = 2 ∷ []
decision_words rules.Cancelled = 3 ∷ []

unfoldable pub put_generation : List ℕ → Option ℕ → List ℕ
put_generation m g = puts m 0 2 (generation_words g)

unfoldable pub put_decision : List ℕ → rules.Decision → List ℕ
put_decision m v = puts m 0 4 (decision_words v)

abbrev put_origin : List ℕ → rules.Slot → List ℕ
put_origin m s = put_generation (puts m 0 0 (s.domain ∷ s.parent ∷ [])) s.generation

unfoldable pub put_slot : List ℕ → rules.Slot → List ℕ
put_slot m s = put_decision (put_origin m s) s.decision

-- the words after a decision: a refused one leaves them
abbrev put_if : List ℕ → rules.Decision → Answer → List ℕ
put_if m v (Accepted vs) = put_decision m v
put_if m v (Refused n vs) = m

unfoldable pub slot_after : List ℕ → rules.Decided → List ℕ
slot_after m d = put_if m d.slot.decision d.answer

abbrev pub Decides : rules.Decided → List ℕ → Answer → List ℕ → Type 0
Decides d m a m' = (a ≡ d.answer) × (m' ≡ slot_after m d)

-- what was decided in one way is decided in the same way
pub decides : (d e : rules.Decided) (m : List ℕ) (a : Answer) (m' : List ℕ) → d ≡ e → Decides d m a m' → Decides e m a m'
decides d e m a m' p w = (w.0 ∙ ap (λ (x : rules.Decided). x.answer) p, w.1 ∙ ap (slot_after m) p)

-- What holds of any n words holds of a list of that length.
abbrev AnyWords : ℕ → (List ℕ → Type 0) → Type 0
AnyWords zero P = P []
AnyWords (suc n) P = (w : ℕ) → AnyWords n (λ l. P (w ∷ l))

any_words : (n : ℕ) (P : List ℕ → Type 0) → AnyWords n P → (m : List ℕ) → length m ≡ n → P m
any_words zero P h [] l = h
any_words zero P h (w ∷ m) l = absurd (omega arith)
any_words (suc n) P h [] l = absurd (omega arith)
any_words (suc n) P h (w ∷ m) l = any_words n (λ (k : List ℕ). P (w ∷ k)) (h w) m (omega arith)

-- A decision that is put is the slot's; the rest is as it was.
decision_put : (v : rules.Decision) (m : List ℕ) → length m ≡ 8 → slot_of (slot_at (put_decision m v)) ≡ rules.with_decision (slot_of (slot_at m)) v
unfolding slot_at put_decision
decision_put v = any_words 8 (λ m. slot_of (slot_at (put_decision m v)) ≡ rules.with_decision (slot_of (slot_at m)) v) (put v)
  where
    put : (v : rules.Decision) → AnyWords 8 (λ m. slot_of (slot_at (put_decision m v)) ≡ rules.with_decision (slot_of (slot_at m)) v)
    put rules.Pending a b c d e f g h = refl
    put (rules.Assigned k) a b c d e f g h = refl
    put rules.Failed a b c d e f g h = refl
    put rules.Cancelled a b c d e f g h = refl

-- An origin that is put is the slot's; of the decision nothing is said.
origin_put : (s : rules.Slot) (m : List ℕ) → length m ≡ 8 → rules.with_decision (slot_of (slot_at (put_origin m s))) s.decision ≡ s
unfolding slot_at put_generation
origin_put s = any_words 8 (λ m. rules.with_decision (slot_of (slot_at (put_origin m s))) s.decision ≡ s) (put s.generation)
  where
    with : Option ℕ → rules.Slot
    with o = record { domain = s.domain; parent = s.parent; generation = o; decision = s.decision }

    put : (o : Option ℕ) → AnyWords 8 (λ m. rules.with_decision (slot_of (slot_at (put_origin m (with o)))) s.decision ≡ with o)
    put None a b c d e f g h = refl
    put (Some n) a b c d e f g h = refl

module _ (m : List ℕ) (l : length m ≡ 8) where
  -- What was stored is what is loaded, whatever the words were.
  pub stored_slot : (s : rules.Slot) → slot_of (slot_at (put_slot m s)) ≡ s
  unfolding put_slot put_generation
  stored_slot s =
      let k : length (put_origin m s) ≡ 8 = puts_length (generation_words s.generation) _ 0 2 ∙ puts_length (s.domain ∷ s.parent ∷ []) m 0 0 ∙ l in
      decision_put s.decision (put_origin m s) k ∙ origin_put s m l

  -- The words after an operation hold the slot that comes back, be it decided or as it was.
  decided_held : (agrees : Bool) (v : rules.Decision) →
      slot_of (slot_at (slot_after m (rules.decided (slot_of (slot_at m)) agrees v))) ≡ (rules.decided (slot_of (slot_at m)) agrees v).slot
  unfolding slot_after
  decided_held agrees v = held (rules.is_pending (slot_of (slot_at m)).decision && agrees)
    where
      next : Bool → rules.Decided
      next b = pick b
          (record { slot = rules.with_decision (slot_of (slot_at m)) v; answer = Accepted [] })
          (record { slot = slot_of (slot_at m); answer = Refused (number InvalidState) [] })

      held : (b : Bool) → slot_of (slot_at (slot_after m (next b))) ≡ (next b).slot
      held true = decision_put v m l
      held false = refl

  pub record Held : Type 0 where
    pub assign : (c : retirement.Identity) → slot_of (slot_at (slot_after m (rules.assign (slot_of (slot_at m)) c))) ≡ (rules.assign (slot_of (slot_at m)) c).slot
    pub reject : slot_of (slot_at (slot_after m (rules.reject (slot_of (slot_at m))))) ≡ (rules.reject (slot_of (slot_at m))).slot
    pub cancel : slot_of (slot_at (slot_after m (rules.cancel (slot_of (slot_at m))))) ≡ (rules.cancel (slot_of (slot_at m))).slot

  pub after_held : Held
  unfolding rules.assign rules.reject rules.cancel
  after_held = record {
    assign = λ c. decided_held _ _;
    reject = decided_held _ _;
    cancel = decided_held _ _;
  }
