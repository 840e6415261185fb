-- What ready and finish come to where the id is found in the words and its life loaded.
use Rattle.std.specs.Prelude.{ℕ, ◌+◌, ◌*◌, ◌%◌, ◌≡◌, Bool, List, [], map, set, is_some, Option, Some, None}
use Rattle.std.proofs.Math.Path.{sym, ap}
use Rattle.std.proofs.Common.{◌∙◌}
use Rattle.std.proofs.Math.Bool.{true, false}
use Rattle.rules.specs.Basics.{any, is_none}
use Rattle.rules.specs.Holds.{Provision, Plugin, with_provisions, with_root}
use Rattle.rules_types.specs.declared.Phase.{Phase}
use Rattle.rules_types.specs.declared.Root.TheVariants.{Unissued}
use Rattle.rules.specs.Refusals.{Retired, InvalidState, NotRun, Missing}
use Rattle.rules.specs.Ports.{pairs}
use Rattle.rules.specs.Outcomes.{Accepted, refuses, stores, checked, Meets}
use Rattle.rules.specs.Phases as rules
use Rattle.memory.specs.Ways.{left_by}
use Rattle.memory.specs.Layout.{prov_part, place_words, places, mask_word}
use Rattle.memory.specs.View.{life_at, plugin_at, view}
use Rattle.memory.specs.Writes.{find_at, put_life}
use Rattle.memory.specs.Frames.{with_life}
use Rattle.memory.specs.Known.{at_place, at_id, at_known}
use Rattle.memory.specs.declared.Life.{Life}
use Rattle.memory_life.specs.Told.{life_found, generation_found}
use Rattle.memory.specs.Lives.{moved_life, finished_life}
use Rattle.memory_values.specs.Values.{lack_from}
use Rattle.memory_values.specs.Firsts.{provisions_at, lack_nothing, lack_test}
use Rattle.registry_ready_finish.specs.Finished.{finished_to}

-- whether a provision has no value
abbrev pub lacks : Plugin → Bool
lacks p = any (λ (v : Provision). is_none v.value) p.provisions

-- by the first provision that has none
pub lacks_test : (m : List ℕ) (i : ℕ) (x : Option ℕ) (b : Bool) → x ≡ lack_from 0 (plugin_at m i).provisions → b ≡ is_some x → lacks (plugin_at m i) ≡ b
lacks_test m i None b e f = (lack_nothing (plugin_at m i).provisions (sym e)).0 ∙ sym f
lacks_test m i (Some j) b e f =
    rw (provisions_at m i) (lack_test m i (pairs (prov_part m i)) j (ap (lack_from 0) (sym (provisions_at m i)) ∙ sym e)) ∙ sym f

-- a plugin at rest, without values
abbrev pub rested : Plugin → Plugin
rested p = rules.moved rules.Finish (with_provisions (map rules.dropped p.provisions) (with_root Unissued p))

module _ (m : List ℕ) (id i : ℕ) (e : find_at m id ≡ Some i) (l : Life) (h : l ≡ life_at m (i % places)) where
  same : l ≡ life_at m i
  same = life_found m id i e l h

  pub ready_retired : l.retired ≡ true → rules.ready (view m) id ≡ refuses Retired []
  unfolding rules.ready checked plugin_at
  ready_retired t = at_known m id i e _ ∙ rw (← same) (rw t)

  module _ (n : l.retired ≡ false) where
    pub ready_stuck : rules.cell l.phase rules.Ready ≡ None → rules.ready (view m) id ≡ refuses InvalidState []
    unfolding rules.ready checked plugin_at
    ready_stuck f = at_known m id i e _ ∙ rw (← same) (rw (n, f))

    module _ (p : Phase) (f : rules.cell l.phase rules.Ready ≡ Some p) (s : Bool) (g : s ≡ rules.is_spent l.root) where
      pub ready_not_run : s ≡ false → rules.ready (view m) id ≡ refuses NotRun []
      unfolding rules.ready checked plugin_at
      ready_not_run z = at_known m id i e _ ∙ rw (← same) (rw (n, f, sym g ∙ z))

      module _ (y : s ≡ true) where
        pub ready_lacks : lacks (plugin_at m (i % places)) ≡ true → rules.ready (view m) id ≡ refuses Missing []
        unfolding rules.ready checked plugin_at
        ready_lacks k =
            let k' : lacks (plugin_at m i) ≡ true = sym (ap (λ j. lacks (plugin_at m j)) (at_place m id i e)) ∙ k in
            at_known m id i e _ ∙ rw (← same) (rw (n, f, sym g ∙ y, k'))

        pub ready_moves : lacks (plugin_at m (i % places)) ≡ false → rules.ready (view m) id ≡ stores (with_life (plugin_at m i) (moved_life l p)) []
        unfolding rules.ready checked plugin_at
        ready_moves k =
            let k' : lacks (plugin_at m i) ≡ false = sym (ap (λ j. lacks (plugin_at m j)) (at_place m id i e)) ∙ k in
            at_known m id i e _ ∙ rw (← same) (rw (n, f, sym g ∙ y, k', generation_found m id i e l h))

  pub finish_stuck : rules.cell l.phase rules.Finish ≡ None → rules.finish (view m) id ≡ refuses InvalidState []
  unfolding rules.finish checked plugin_at
  finish_stuck f = at_known m id i e _ ∙ rw (← same) (rw f)

  module _ (p : Phase) (f : rules.cell l.phase rules.Finish ≡ Some p) where
    pub finish_rests : rules.finish (view m) id ≡ stores (rested (plugin_at m i)) []
    unfolding rules.finish checked plugin_at
    finish_rests = at_known m id i e _ ∙ rw (← same) (rw f)

    pub finish_told : (l' : Life) → l' ≡ finished_life l p → (m' : List ℕ) → m' ≡ put_life m (i % places) l' → (m'' : List ℕ)
        → m'' ≡ set m' (i % places * place_words + mask_word) 0
        → Meets finished_to (rules.finish (view m) id) m (Accepted []) m''
    unfolding left_by plugin_at
    finish_told l' k m' s m'' t =
        let a : i % places ≡ i = at_place m id i e in
        let w : l' ≡ finished_life (life_at m i) p = k ∙ ap (λ (x : Life). finished_life x p) same in
        let c : rules.cell (life_at m i).phase rules.Finish ≡ Some p = sym (ap (λ (x : Life). rules.cell x.phase rules.Finish) same) ∙ f in
        (rw finish_rests, rw (finish_rests, at_id m id i e, e) (t ∙ rw (s, a, w) (rw c)))
