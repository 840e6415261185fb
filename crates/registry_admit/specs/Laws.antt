-- What admission and call come to where the id is found in the words, and where it is not; and what they answer and leave then.
use Rattle.std.specs.Prelude.{ℕ, ◌%◌, ◌≡◌, refl, ◌≢◌, Bool, true, false, not, ◌||◌, List, [], eqb, Result, Ok, Err, IsErrAnd, is_ok, Some, None}
use Rattle.std.proofs.Common.{◌∙◌, eq-eqb, ne_eqb, eqb-true}
use Rattle.std.proofs.Math.Path.{sym, ap}
use Rattle.std.proofs.lemmas.Result.{err_from_is_err_and}
use Rattle.rules.specs.Holds.{is_loading, with_root}
use Rattle.rules_types.specs.declared.Root.{Root}
use Rattle.rules_types.specs.declared.Root.TheVariants.{Queued, Spent}
use Rattle.rules.specs.Refusals.{Refusal, Unknown, Retired, InvalidState, Stale}
use Rattle.rules.specs.Outcomes.{Accepted, Outcome, refuses, stores, Check, checked, answer_of, Meets}
use Rattle.rules.specs.Phases.{setup}
use Rattle.rules.specs.Admission.{Ticket, Invocation, five, is_unissued, admission_checks, admit, admits, is_live, receipt, call}
use Rattle.rules_laws.specs.Laws.Verdicts.{passes, checked_pass, checked_refuses}
use Rattle.memory.specs.Layout.{word, places, domain_word}
use Rattle.memory.specs.View.{life_at, plugin_at, view}
use Rattle.memory.specs.Writes.{find_at, put_life}
use Rattle.memory.specs.Frames.{with_life}
use Rattle.memory.specs.Known.{at_id, at_known, none_known, life_of, life_of_lem, stored_life}
use Rattle.memory.specs.Lives.{rooted_life}
use Rattle.memory.specs.declared.Life.{Life}
use Rattle.memory_life.specs.Told.{told_stored, life_found}
use Rattle.registry_live.specs.Lives.{verdict_of, live_of}
use Rattle.registry_admit.specs.Answers.{invocation, given, Asked, admits_answer}

-- a found plugin and its life as it was loaded
module _ (m : List ℕ) (id i : ℕ) (life : Life) (e : find_at m id ≡ Some i) (l : life ≡ life_at m (i % places)) where
  loaded : life_of (plugin_at m i) ≡ life
  loaded = life_of_lem m i ∙ sym (life_found m id i e life l)

  rooted_plugin : (r : Root) → with_root r (plugin_at m i) ≡ with_life (plugin_at m i) (rooted_life life r)
  rooted_plugin r = ap (λ x. with_life (plugin_at m i) (rooted_life x r)) loaded

  -- its life was stored with another root
  pub told_rooted : (o : Outcome) (r : Root) (vs : List ℕ) (l' : Life) (m' : List ℕ) → o ≡ stores (with_root r (plugin_at m i)) vs
      → l' ≡ rooted_life life r → m' ≡ put_life m (i % places) l' → Meets stored_life o m (Accepted vs) m'
  told_rooted o r vs l' m' k s p =
      told_stored o m id i vs (rooted_life life r) m' e (k ∙ ap (λ x. stores x vs) (rooted_plugin r)) (p ∙ ap (put_life m (i % places)) s)

-- asking hands a refusal on
pub asked_refusal : (m : List ℕ) (t : Ticket) (r : Result (ℕ × Life) Refusal) (x : Refusal) → IsErrAnd r (λ y. y ≡ x)
    → ((a : ℕ) → admit (view m) t a ≡ refuses x []) → Asked m t r
asked_refusal m t r x e k = let p = err_from_is_err_and r e in rw (p.1, p.2) k

-- a plugin that passes is of the ticket's generation
current : (l s : Bool) → (not l || not s) ≡ false → s ≡ true
current l true h = refl
current true false h = cc
current false false h = cc

-- over the header's word as it was read
module _ (m : List ℕ) (t : Ticket) (d : ℕ) (domain : d ≡ word m domain_word) where
  pub asked_foreign : t.domain ≢ d → (a : ℕ) → admit (view m) t a ≡ refuses InvalidState []
  unfolding admit checked view
  asked_foreign n a = rw (ne_eqb t.domain (word m domain_word) (λ s. n (s ∙ sym domain)))

  module _ (same : t.domain ≡ d) where
    own : eqb t.domain (word m domain_word) ≡ true
    own = eq-eqb t.domain (word m domain_word) (same ∙ domain)

    pub asked_kind : t.kind ≢ setup → (a : ℕ) → admit (view m) t a ≡ refuses InvalidState []
    unfolding admit checked view
    asked_kind n a = rw (own, ne_eqb t.kind setup n)

    module _ (kind : t.kind ≡ setup) where
      pub asked_none : find_at m t.id ≡ None → (a : ℕ) → admit (view m) t a ≡ refuses Unknown []
      unfolding admit checked view
      asked_none e a = rw (own, eq-eqb t.kind setup kind) (none_known m t.id e _)

      module _ (i : ℕ) (life : Life) (e : find_at m t.id ≡ Some i) (l : life ≡ life_at m (i % places)) where
        abbrev checks : List Check
        checks = admission_checks life.retired (is_loading life.phase) (eqb life.generation.0 t.generation) (is_unissued life.root)

        abbrev queued : ℕ → Invocation → Outcome
        queued a x = stores (with_root (Queued life.revision a) (plugin_at m i)) (five x)

        abbrev answers : ℕ → Invocation
        answers a = invocation (word m domain_word) (plugin_at m i).id life.generation.0 life.revision a

        comes : (a : ℕ) → admit (view m) t a ≡ checked checks (queued a (answers a))
        unfolding admit checked view plugin_at
        comes a = rw (own, eq-eqb t.kind setup kind) (at_known m t.id i e _ ∙ rw (life_found m t.id i e life l))

        pub asked_refused : (x : Refusal) → ◌≡◌ {A = Result Unit Refusal} (Err x) (verdict_of life t.generation) → (a : ℕ)
            → admit (view m) t a ≡ refuses x []
        asked_refused x h a = comes a ∙ checked_refuses checks _ x (sym h)

        pub asked_passed : ◌≡◌ {A = Result Unit Refusal} (Ok tt) (verdict_of life t.generation) → (a : ℕ)
            → admit (view m) t a ≡ queued a (given t life a)
        asked_passed h a =
            let g : life.generation.0 ≡ t.generation = eqb-true _ _ (current (is_loading life.phase) _ (passes checks (sym h)).1.0) in
            let x : answers a ≡ given t life a = λ k. record {
              domain = sym (same ∙ domain) k;
              id = at_id m t.id i e k;
              generation = g k;
              revision = life.revision;
              argument = a;
            } in
            comes a ∙ checked_pass checks _ (sym h) ∙ ap (queued a) x

-- whether a ticket would be admitted
pub asked_accepts : (m : List ℕ) (t : Ticket) (r : Result (ℕ × Life) Refusal) (b : Bool) → Asked m t r → b ≡ is_ok r
    → admits_answer b ≡ answer_of (admits (view m) t)
unfolding admits
asked_accepts m t (Ok x) b h e = rw (e, h.2 0)
asked_accepts m t (Err x) b h e = rw (e, h 0)

-- A call.
module _ (m : List ℕ) (t : Invocation) (d : ℕ) (domain : d ≡ word m domain_word) where
  pub call_foreign : t.domain ≢ d → call (view m) t ≡ refuses InvalidState []
  unfolding call checked view
  call_foreign n = rw (ne_eqb t.domain (word m domain_word) (λ s. n (s ∙ sym domain)))

  module _ (same : t.domain ≡ d) where
    ours : eqb t.domain (word m domain_word) ≡ true
    ours = eq-eqb t.domain (word m domain_word) (same ∙ domain)

    pub call_none : find_at m t.id ≡ None → call (view m) t ≡ refuses Unknown []
    unfolding call checked view
    call_none e = rw ours (none_known m t.id e _)

    module _ (i : ℕ) (life : Life) (e : find_at m t.id ≡ Some i) (l : life ≡ life_at m (i % places)) where
      marked : (plugin_at m i).retired ≡ life.retired
      marked = ap (λ x. x.retired) (loaded m t.id i life e l)

      pub call_retired : life.retired ≡ true → call (view m) t ≡ refuses Retired []
      unfolding call checked view
      call_retired y = rw ours (at_known m t.id i e _ ∙ rw (marked ∙ y))

      module _ (b : Bool) (f : life.retired ≡ false) (k : b ≡ live_of life t) where
        live : is_live (plugin_at m i) t ≡ b
        unfolding is_live
        live = ap (λ x. live_of x t) (loaded m t.id i life e l) ∙ sym k

        pub call_stale : b ≡ false → call (view m) t ≡ refuses Stale []
        unfolding call checked view
        call_stale n = rw ours (at_known m t.id i e _ ∙ rw (live ∙ n, marked ∙ f))

        call_spends : b ≡ true → call (view m) t ≡ stores (with_root Spent (plugin_at m i)) (receipt t (plugin_at m i).payload)
        unfolding call checked view
        call_spends y = rw ours (at_known m t.id i e _ ∙ rw (live ∙ y, marked ∙ f))

        pub told_called : (l' : Life) (m' : List ℕ) → b ≡ true → l' ≡ rooted_life life Spent → m' ≡ put_life m (i % places) l'
            → Meets stored_life (call (view m) t) m (Accepted (receipt t life.payload)) m'
        told_called l' m' y s p =
            told_rooted m t.id i life e l (call (view m) t) Spent (receipt t life.payload) l' m'
            (call_spends y ∙ ap (λ x. stores (with_root Spent (plugin_at m i)) (receipt t x.payload)) (loaded m t.id i life e l)) s p
