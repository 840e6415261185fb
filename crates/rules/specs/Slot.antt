-- Document 01, "Child slot": a plain value that goes in and comes back. No registry holds it.
use Rattle.std.specs.Prelude.{ℕ, ◌≡◌, Bool, true, false, ◌&&◌, [], eqb, Option, Some, None}
use Rattle.rules.specs.Basics.{pick}
use Rattle.rules.specs.Refusals.{number, InvalidState}
use Rattle.rules.specs.Outcomes.{Answer, Refused, Accepted}
use Rattle.rules.specs.Retirement.{Identity}

pub data Decision : Type 0 where
  Pending : Decision
  Assigned : Identity → Decision
  Failed : Decision
  Cancelled : Decision

-- Origin (domain, parent, generation or none), and the decision.
pub record Slot : Type 0 where
  pub domain : ℕ
  pub parent : ℕ
  pub generation : Option ℕ
  pub decision : Decision

-- Made Pending from a domain, parent and generation.
abbrev pub pending : ℕ → ℕ → ℕ → Slot
pending d p g = record { domain = d; parent = p; generation = Some g; decision = Pending }

-- Made Assigned from an identity, with that identity's domain and parent and no generation.
abbrev pub assigned : Identity → Slot
assigned c = record { domain = c.domain; parent = c.parent; generation = None; decision = Assigned c }

abbrev pub is_pending : Decision → Bool
is_pending Pending = true
is_pending (Assigned c) = false
is_pending Failed = false
is_pending Cancelled = false

abbrev pub with_decision : Slot → Decision → Slot
with_decision s v = record { domain = s.domain; parent = s.parent; generation = s.generation; decision = v }

-- The slot that comes back, with the answer.
pub record Decided : Type 0 where
  pub slot : Slot
  pub answer : Answer

-- 3 unless Pending and the rest agrees
abbrev pub decided : Slot → Bool → Decision → Decided
decided s agrees v = pick (is_pending s.decision && agrees)
    (record { slot = with_decision s v; answer = Accepted [] })
    (record { slot = s; answer = Refused (number InvalidState) [] })

-- Assign: 3 unless Pending and domain and parent agree.
unfoldable pub assign : Slot → Identity → Decided
assign s c = decided s (eqb c.domain s.domain && eqb c.parent s.parent) (Assigned c)

-- Reject and cancel: 3 unless Pending.
unfoldable pub reject : Slot → Decided
reject s = decided s true Failed

unfoldable pub cancel : Slot → Decided
cancel s = decided s true Cancelled

decided_stays : (s : Slot) (agrees : Bool) (v : Decision) → is_pending s.decision ≡ false → (decided s agrees v).slot ≡ s
decided_stays s agrees v e = rw e

pub record Stays (s : Slot) : Type 0 where
  pub assign : (c : Identity) → (assign s c).slot ≡ s
  pub reject : (reject s).slot ≡ s
  pub cancel : (cancel s).slot ≡ s

-- A decision never changes.
pub decision_stays : (s : Slot) → is_pending s.decision ≡ false → Stays s
unfolding assign reject cancel
decision_stays s e = record {
  assign = λ c. decided_stays s _ _ e;
  reject = decided_stays s _ _ e;
  cancel = decided_stays s _ _ e;
}
