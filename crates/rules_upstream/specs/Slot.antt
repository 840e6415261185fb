-- Upstream's clauses on C's slot.
use Rattle.std.specs.Prelude.{ℕ, ◌≡◌, refl, Bool, true, false, ◌&&◌, [], ◌∷◌, eqb, Option, Some, None}
use Rattle.std.proofs.Common.{sym, subst, eq-eqb}
use Rattle.std.proofs.Math.Bool.{and-true}
use Rattle.rules.specs.Basics.{pick}
use Rattle.rules.specs.Holds.{Plugin, Registry, lookup}
use Rattle.rules.specs.Outcomes.{Accepted, answer_of}
use Rattle.rules.specs.Admission.{is_accepted}
use Rattle.rules.specs.Retirement.{Identity, child_identity}
use Rattle.rules.specs.Slot.{Decision, Pending, Assigned, Failed, Cancelled, Slot, pending, assigned, is_pending, with_decision}
use Rattle.rules.specs.Slot.{Decided, decided, assign, reject, cancel}
use Rattle.rules_laws.specs.Laws.Tests.{both}
use Rattle.rules_laws.specs.Laws.Lookups.{lookup_id}
use Rattle.rules_upstream.specs.Retirement.{child_identity_tells}

-- What a slot is made with.
pub record Made (d p : ℕ) (g : Option ℕ) (v : Decision) (s : Slot) : Type 0 where
  pub domain : s.domain ≡ d
  pub parent : s.parent ≡ p
  pub generation : s.generation ≡ g
  pub decision : s.decision ≡ v

-- C from_work, enqueue_native_child: the domain, parent and generation handed in; and Pending.
pub pending_made : (d p g : ℕ) → Made d p (Some g) Pending (pending d p g)
pending_made d p g = record { domain = refl; parent = refl; generation = refl; decision = refl }

-- C from_identity: the identity's domain and parent, no generation; and Assigned with it.
pub assigned_made : (c : Identity) → Made c.domain c.parent None (Assigned c) (assigned c)
assigned_made c = record { domain = refl; parent = refl; generation = refl; decision = refl }

-- C registered_child: the slot made from the identity that a registered child answers.
pub record Registered (r : Registry) (id parent : ℕ) : Type 0 where
  pub child : Identity
  pub answer : answer_of (child_identity r id) ≡ Accepted (child.domain ∷ child.parent ∷ child.id ∷ [])
  pub names : child.id ≡ id
  pub slot : Made r.domain parent None (Assigned child) (assigned child)

pub registered_child : (r : Registry) (id x : ℕ) (p : Plugin) → lookup r id ≡ Some p → p.parent ≡ Some x → Registered r id x
registered_child r id x p e f =
    let c : Identity = record { domain = r.domain; parent = x; id = p.id } in
    record { child = c; answer = child_identity_tells r id x p e f; names = lookup_id r id p e; slot = assigned_made c }

-- What a slot comes back as: with the decision v where the test holds, else as it was; accepted exactly if the test holds.
pub record Decides (s : Slot) (test : Bool) (v : Decision) (u : Decided) : Type 0 where
  pub accepts : is_accepted u.answer ≡ test
  pub slot : u.slot ≡ pick test (with_decision s v) s

decides : (s : Slot) (agrees : Bool) (v : Decision) (test : Bool) → (is_pending s.decision && agrees) ≡ test → Decides s test v (decided s agrees v)
decides s agrees v true e = rw e (record { accepts = refl; slot = refl })
decides s agrees v false e = rw e (record { accepts = refl; slot = refl })

-- C reject: accepted exactly if Pending; then Failed, else the slot stays.
pub reject_decides : (s : Slot) → Decides s (is_pending s.decision) Failed (reject s)
unfolding reject
reject_decides s = decides s true Failed _ (and-true _)

-- C retire_shared_child, of a Pending slot: Cancelled.
pub cancel_decides : (s : Slot) → Decides s (is_pending s.decision) Cancelled (cancel s)
unfolding cancel
cancel_decides s = decides s true Cancelled _ (and-true _)

-- C register_shared_child, of the slot: Assigned exactly if Pending and domain and parent agree.
abbrev pub agrees : Slot → Identity → Bool
agrees s c = eqb c.domain s.domain && eqb c.parent s.parent

pub assign_decides : (s : Slot) (c : Identity) → Decides s (is_pending s.decision && agrees s c) (Assigned c) (assign s c)
unfolding assign
assign_decides s c = decides s (agrees s c) (Assigned c) _ refl

-- C snapshot: the identity of an Assigned slot has the slot's domain and parent. So it is made, and so it stays.
abbrev pub Agrees : Slot → Type 0
Agrees s = (c : Identity) → s.decision ≡ Assigned c → agrees s c ≡ true

pub pending_agrees : (d p g : ℕ) → Agrees (pending d p g)
pending_agrees d p g c e = cc

pub assigned_agrees : (c : Identity) → Agrees (assigned c)
assigned_agrees c c' e =
    let i : c ≡ c' = cc in
    subst (λ x. agrees (assigned c) x ≡ true) i (rw (eq-eqb c.domain c.domain refl, eq-eqb c.parent c.parent refl))

kept_agrees : (s : Slot) (test : Bool) (v : Decision) (u : Decided) → Decides s test v u → (test ≡ true → Agrees (with_decision s v))
    → Agrees s → Agrees u.slot
kept_agrees s true v u d h a = subst Agrees (sym d.slot) (h refl)
kept_agrees s false v u d h a = subst Agrees (sym d.slot) a

module _ (s : Slot) (a : Agrees s) where
  pub assign_agrees : (c : Identity) → Agrees (assign s c).slot
  assign_agrees c = kept_agrees s _ (Assigned c) (assign s c) (assign_decides s c)
      (λ t c' e. let i : c ≡ c' = cc in subst (λ x. agrees s x ≡ true) i (both (is_pending s.decision) (agrees s c) t).1) a

  pub reject_agrees : Agrees (reject s).slot
  reject_agrees = kept_agrees s _ Failed (reject s) (reject_decides s) (λ t c e. cc) a

  pub cancel_agrees : Agrees (cancel s).slot
  cancel_agrees = kept_agrees s _ Cancelled (cancel s) (cancel_decides s) (λ t c e. cc) a
