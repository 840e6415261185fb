-- What each operation of the rules comes to where the id is found in the words, and where it is not; and what its answer says then.
use Rattle.std.specs.Prelude.{ℕ, ◌%◌, ◌<◌, ◌≤◌, ◌≡◌, refl, ◌≢◌, Bool, true, false, List, [], eqb, ltb, Result, Ok, Option, Some, None}
use Rattle.std.proofs.Common.{arith, ◌∙◌}
use Rattle.std.proofs.Math.Path.{sym, ap}
use borrow.Author.Tests.{lt-ltb, le-ltb, le-leb, lt-leb, eq-eqb, ne_eqb}
use Rattle.rules.specs.Basics.{holds}
use Rattle.rules.specs.Holds.{lookup}
use Rattle.rules.specs.Refusals.{Refusal, Unknown, Retired, InvalidState}
use Rattle.rules.specs.Outcomes.{Outcome, refuses, answers, checked, answer_of, Meets}
use Rattle.rules.specs.Answers.{done_answer}
use Rattle.rules.specs.Retirement.{Identity, is_child_of, retire, retire_found, retire_child, identity, child_identity}
use Rattle.memory.specs.Layout.{word, places, domain_word, first_word, next_word}
use Rattle.memory.specs.View.{parent_at, life_at, plugin_at, view}
use Rattle.memory.specs.Writes.{find_at, put_life}
use Rattle.memory.specs.Known.{at_place, at_lookup, at_known, none_lookup, stored_life}
use Rattle.memory.specs.Lives.{marked_life}
use Rattle.memory_life.specs.Told.{told_refused, told_stored}
use Rattle.registry_retire.specs.Answers.{child_answer, Marks}

-- A plugin found and its mark set: retired by id, or by what comes to the same.
pub told_marked : (m : List ℕ) (id i : ℕ) (o : Outcome) → find_at m id ≡ Some i → o ≡ retire (view m) id → (r : Result Unit Refusal) (m' : List ℕ)
    → Marks m i r m' → Meets stored_life o m (done_answer r) m'
unfolding retire checked plugin_at
told_marked m id i o e g r m' h = go (life_at m i).retired refl
  where
    go : (b : Bool) → (life_at m i).retired ≡ b → Meets stored_life o m (done_answer r) m'
    go true t =
        let k = rw (at_place m id i e, t) at h in
        rw (k.0, k.1) (told_refused o m Retired [] (g ∙ at_known m id i e _ ∙ rw t))
    go false t =
        let k = rw (at_place m id i e, t) at h in
        let p : m' ≡ put_life m (i % places) (marked_life (life_at m i)) = rw (at_place m id i e) k.1 in
        rw k.0 (told_stored o m id i [] (marked_life (life_at m i)) m' e (g ∙ at_known m id i e _ ∙ rw t) p)

-- by child identity, over the header's words as they were read
module _ (m : List ℕ) (c : Identity) (d : ℕ) (domain : d ≡ word m domain_word) where
  pub child_foreign : c.domain ≢ d → retire_child (view m) c ≡ refuses InvalidState []
  unfolding retire_child checked view
  child_foreign n = rw (ne_eqb c.domain (word m domain_word) (λ s. n (s ∙ sym domain)))

  module _ (f : ℕ) (same : c.domain ≡ d) (first : f ≡ word m first_word) where
    own : eqb c.domain (word m domain_word) ≡ true
    own = eq-eqb c.domain (word m domain_word) (same ∙ domain)

    pub child_below : c.id < f → retire_child (view m) c ≡ refuses Unknown []
    unfolding retire_child checked view
    child_below h = rw (own, lt-ltb c.id (word m first_word) (omega arith))

    module _ (n : ℕ) (from : f ≤ c.id) (next : n ≡ word m next_word) where
      not_below_lem : ltb c.id (word m first_word) ≡ false
      not_below_lem = le-ltb c.id (word m first_word) (omega arith)

      pub child_above : n ≤ c.id → retire_child (view m) c ≡ refuses Unknown []
      unfolding retire_child checked view
      child_above h = rw (own, not_below_lem, le-leb (word m next_word) c.id (omega arith))

      module _ (below : c.id < n) where
        child_issued : retire_child (view m) c ≡ retire_found c.parent (lookup (view m) c.id)
        unfolding retire_child checked view
        child_issued = rw (own, not_below_lem, lt-leb (word m next_word) c.id (omega arith))

        pub child_gone : find_at m c.id ≡ None → retire_child (view m) c ≡ answers []
        child_gone e = child_issued ∙ ap (retire_found c.parent) (none_lookup m c.id e)

        module _ (i : ℕ) (b : Bool) (e : find_at m c.id ≡ Some i) (t : b ≡ holds (eqb c.parent) (parent_at m (i % places))) where
          tested : is_child_of c.parent (plugin_at m i) ≡ b
          unfolding plugin_at
          tested = sym (t ∙ ap (λ k. holds (eqb c.parent) (parent_at m k)) (at_place m c.id i e))

          child_there : retire_child (view m) c ≡ retire_found c.parent (Some (plugin_at m i))
          child_there = child_issued ∙ ap (retire_found c.parent) (at_lookup m c.id i e)

          pub child_other : b ≡ false → retire_child (view m) c ≡ refuses InvalidState []
          unfolding checked
          child_other k = child_there ∙ rw (tested ∙ k)

          pub child_own : b ≡ true → retire_child (view m) c ≡ retire (view m) c.id
          unfolding checked retire
          child_own y = rw child_there (rw (tested ∙ y) (sym (at_known m c.id i e _)))

-- asking a child identity, with the parent as it was read
module _ (m : List ℕ) (id i : ℕ) (q : Option ℕ) (e : find_at m id ≡ Some i) (t : q ≡ parent_at m (i % places)) where
  identity_found : child_identity (view m) id ≡ answers (identity (word m domain_word) id q)
  unfolding child_identity view plugin_at
  identity_found =
      at_known m id i e (λ p. answers (identity (view m).domain id p.parent))
      ∙ ap (λ o. answers (identity (word m domain_word) id o)) (sym (t ∙ ap (parent_at m) (at_place m id i e)))

  pub identity_orphan : q ≡ None → child_answer (Ok None) ≡ answer_of (child_identity (view m) id)
  identity_orphan s = rw (identity_found, s)

  pub identity_child : (d p : ℕ) → q ≡ Some p → d ≡ word m domain_word
      → child_answer (Ok (Some (record { domain = d; parent = p; id = id }))) ≡ answer_of (child_identity (view m) id)
  identity_child d p s w = rw (identity_found, s, w)
