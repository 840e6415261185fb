-- Upstream's clauses on R's admission and call.
use Rattle.std.specs.Prelude.{ℕ, ◌≡◌, refl, Bool, true, not, ◌&&◌, [], ◌∷◌, eqb, Some}
use Rattle.std.proofs.Common.{sym, ◌∙◌, eqb-true}
use Rattle.std.proofs.lemmas.Bool.{not-true}
use Rattle.rules.specs.Basics.{holds}
use Rattle.rules.specs.Holds.{Plugin, Registry, lookup, is_loading, with_root}
use Rattle.rules_types.specs.declared.Root.TheVariants.{Queued, Spent}
use Rattle.rules.specs.Phases.{setup}
use Rattle.rules.specs.Admission.{Ticket, Invocation, is_unissued, is_live, receipt, admit, call}
use Rattle.rules_laws.specs.Laws.Tests.{both}
use Rattle.rules_laws.specs.Laws.Lookups.{lookup_id}
use Rattle.rules_laws.specs.Demand3.Lives.{Facts, facts, would_accept}
use Rattle.rules_laws.specs.Kept.Plugins.{alike}
use Rattle.rules_upstream.specs.Accepted.{accepted, exact, held_by, Effect, When, when_passed, when_known, has_effect}

-- R registered_root_ready: a Setup ticket of this domain, for a plugin that is not retired, Loading, of the ticket's generation,
-- and has its root Unissued.
abbrev pub root_ready : Registry → Ticket → Bool
root_ready r t = eqb t.domain r.domain && eqb t.kind setup && holds
    (λ p. not p.retired && (is_loading p.phase && (eqb p.generation t.generation && is_unissued p.root))) (lookup r t.id)

module _ (r : Registry) where
  -- R call: accepted only if domain, id and revision agree; here also only if it is live and not retired.
  pub call_exactly : (t : Invocation)
      → accepted (call r t) ≡ (eqb t.domain r.domain && holds (λ p. not p.retired && is_live p t) (lookup r t.id))
  unfolding call
  call_exactly t = simp exact

  -- .. the receipt has the stored payload; revision, payload and identity stay.
  pub call_effect : (t : Invocation) → When (Effect r t.id (λ p. receipt t p.payload) (with_root Spent)) (call r t)
  unfolding call
  call_effect t = when_passed (Effect r _ _ _) _ _ λ _. when_known r (Effect r _ _ _) _ _ λ p e. when_passed (Effect r _ _ _) _ _ λ _ _.
      has_effect r _ _ _ p e (alike p refl)

  -- .. and only if domain, id and revision agree (and more: Facts).
  pub call_agrees : (t : Invocation) → accepted (call r t) ≡ true
      → (p : Plugin) × (lookup r t.id ≡ Some p) × (p.id ≡ t.id) × Facts r.domain p t
  call_agrees t e =
      let c = both _ _ (sym (call_exactly t) ∙ e) in
      let (p, f, l) = held_by _ _ c.1 in
      let m = both (not p.retired) (is_live p t) l in
      let y = would_accept r.domain p t m.1 (not-true p.retired m.0) (eqb-true t.domain r.domain c.0) in
      (p, f, lookup_id r t.id p f, facts r.domain p t y)

  -- R admit_registered_root: it answers domain, id, generation, revision and argument; the root alone changes, to Queued.
  pub admit_effect : (t : Ticket) (a : ℕ)
      → When (Effect r t.id (λ p. r.domain ∷ p.id ∷ p.generation ∷ p.revision ∷ a ∷ []) (λ p. with_root (Queued p.revision a) p)) (admit r t a)
  unfolding admit
  admit_effect t a = when_passed (Effect r _ _ _) _ _ λ _. when_known r (Effect r _ _ _) _ _ λ p e. when_passed (Effect r _ _ _) _ _ λ _ _.
      has_effect r _ _ _ p e (alike p refl)
