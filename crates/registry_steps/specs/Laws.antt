-- What each step of the rules comes to where the id is found in the words and its life loaded.
use Rattle.std.specs.Prelude.{ℕ, ◌%◌, ◌≡◌, Bool, true, false, List, [], ◌∷◌, eqb, Option, Some, None}
use Rattle.std.proofs.Math.Path.{sym}
use Rattle.std.proofs.Common.{ap, ◌∙◌}
use Rattle.rules.specs.Basics.{all, last}
use Rattle.rules_types.specs.Generations.{next_generation}
use Rattle.rules_types.specs.declared.Phase.{Phase}
use Rattle.rules.specs.Refusals.{Retired, InvalidState, Exhausted, Unavailable, InUse}
use Rattle.rules.specs.Outcomes.{Accepted, refuses, stores, checked, Meets}
use Rattle.rules.specs.Ports.{pairs}
use Rattle.rules.specs.Phases as rules
use Rattle.memory.specs.Layout.{word, dep_part, places, domain_word}
use Rattle.memory.specs.View.{life_at, plugin_at, view}
use Rattle.memory.specs.Writes.{find_at, put_life}
use Rattle.memory.specs.Frames.{with_life}
use Rattle.memory.specs.Known.{at_place, at_known, stored_life}
use Rattle.memory.specs.declared.Life.{Life}
use Rattle.memory_life.specs.Told.{life_found, generation_found, told_stored}
use Rattle.memory.specs.Lives.{moved_life, begun_life}

module _ (m : List ℕ) (id i : ℕ) (e : find_at m id ≡ Some i) (l : Life) (h : l ≡ life_at m (i % places)) where
  same : l ≡ life_at m i
  same = life_found m id i e l h

  -- the table's cell for the plugin's phase
  at_phase : (s : rules.Step) (c : Option Phase) → rules.cell l.phase s ≡ c → rules.cell (plugin_at m i).phase s ≡ c
  unfolding plugin_at
  at_phase s c f = sym (ap (λ (x : Life). rules.cell x.phase s) same) ∙ f

  pub fail_stuck : rules.cell l.phase rules.Fail ≡ None → rules.fail (view m) id ≡ refuses InvalidState []
  unfolding rules.fail checked
  fail_stuck f = at_known m id i e _ ∙ rw (at_phase rules.Fail None f)

  pub fail_moves : (p : Phase) → rules.cell l.phase rules.Fail ≡ Some p → rules.fail (view m) id ≡ stores (with_life (plugin_at m i) (moved_life l p)) []
  unfolding rules.fail checked plugin_at
  fail_moves p f = at_known m id i e _ ∙ rw (at_phase rules.Fail (Some p) f) (rw same)

  pub unload_stuck : rules.cell l.phase rules.Unload ≡ None → rules.unload (view m) id ≡ refuses InvalidState []
  unfolding rules.unload checked
  unload_stuck f = at_known m id i e _ ∙ rw (at_phase rules.Unload None f)

  module _ (p : Phase) (f : rules.cell l.phase rules.Unload ≡ Some p) (b : Bool) (u : b ≡ rules.in_use (view m) (plugin_at m (i % places))) where
    used : rules.in_use (view m) (plugin_at m i) ≡ b
    used = sym (u ∙ ap (λ k. rules.in_use (view m) (plugin_at m k)) (at_place m id i e))

    pub unload_used : b ≡ true → rules.unload (view m) id ≡ refuses InUse []
    unfolding rules.unload checked
    unload_used t = at_known m id i e _ ∙ rw (at_phase rules.Unload (Some p) f, used ∙ t)

    pub unload_moves : b ≡ false → rules.unload (view m) id ≡ stores (with_life (plugin_at m i) (moved_life l p)) []
    unfolding rules.unload checked plugin_at
    unload_moves n = at_known m id i e _ ∙ rw (at_phase rules.Unload (Some p) f, used ∙ n) (rw same)

  of_generation : (plugin_at m i).generation ≡ l.generation.0
  of_generation = generation_found m id i e l h

  pub begin_retired : l.retired ≡ true → rules.begin (view m) id ≡ refuses Retired []
  unfolding rules.begin checked plugin_at
  begin_retired t = at_known m id i e _ ∙ rw (← same) (rw t)

  module _ (n : l.retired ≡ false) where
    pub begin_stuck : rules.cell l.phase rules.Begin ≡ None → rules.begin (view m) id ≡ refuses InvalidState []
    unfolding rules.begin checked plugin_at
    begin_stuck f = at_known m id i e _ ∙ rw (← same) (rw (n, f))

    module _ (p : Phase) (f : rules.cell l.phase rules.Begin ≡ Some p) where
      pub begin_last : eqb l.generation.0 last ≡ true → rules.begin (view m) id ≡ refuses Exhausted []
      unfolding rules.begin checked plugin_at
      begin_last g = at_known m id i e _ ∙ rw (← same) (rw (n, f, of_generation, g))

      module _ (g : eqb l.generation.0 last ≡ false) (ws : List ℕ) (d : ws ≡ dep_part m (i % places)) (b : Bool)
          (u : b ≡ all (rules.available (view m)) (pairs ws)) where
        ready_for : all (rules.available (view m)) (pairs (dep_part m i)) ≡ b
        ready_for = sym (u ∙ ap (λ x. all (rules.available (view m)) (pairs x)) (d ∙ ap (dep_part m) (at_place m id i e)))

        pub begin_lacks : b ≡ false → rules.begin (view m) id ≡ refuses Unavailable []
        unfolding rules.begin checked plugin_at
        begin_lacks z = at_known m id i e _ ∙ rw (← same) (rw (n, f, of_generation, g, ready_for ∙ z))

        pub begin_moves : b ≡ true → rules.begin (view m) id
            ≡ stores (with_life (plugin_at m i) (begun_life l p)) (word m domain_word ∷ id ∷ (next_generation l.generation).0 ∷ 1 ∷ [])
        unfolding rules.begin checked plugin_at view
        begin_moves y = at_known m id i e _ ∙ rw (← same) (rw (n, f, of_generation, g, ready_for ∙ y))

        pub begin_told : b ≡ true → (dm : ℕ) → dm ≡ word m domain_word → (l' : Life) → l' ≡ begun_life l p → (m' : List ℕ) → m' ≡ put_life m (i % places) l'
            → Meets stored_life (rules.begin (view m) id) m (Accepted (dm ∷ id ∷ l'.generation.0 ∷ 1 ∷ [])) m'
        begin_told y dm w l' k m' s =
            let t = told_stored (rules.begin (view m) id) m id i _ (begun_life l p) m' e (begin_moves y) (s ∙ ap (put_life m (i % places)) k) in
            ((λ j. Accepted (w j ∷ id ∷ (k j).generation.0 ∷ 1 ∷ [])) ∙ t.0, t.1)
