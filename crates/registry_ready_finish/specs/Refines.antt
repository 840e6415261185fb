-- Of dense words, the registry after a finish is the rules', and the words are dense again.
use Rattle.std.specs.Prelude.{ℕ, ◌+◌, ◌*◌, ◌≡◌, refl, ◌≢◌, length, set, Some}
use Rattle.std.proofs.Common.{arith, sym, ◌∙◌, length-set, get_or-set_other}
use Rattle.std.proofs.Math.Path.{ap}
use mathlib.Core.List.{List, [], map}
use Rattle.rules.specs.Basics.{or_else}
use Rattle.rules.specs.Holds.{Plugin, with_provisions}
use Rattle.rules.specs.Refusals.{Refusal, Unknown}
use Rattle.rules.specs.Outcomes.{Outcome, refuses, stores, after}
use Rattle.rules.specs.Phases as rules
use Rattle.rules_laws.specs.Laws.Tests.{checked_elim}
use Rattle.memory.specs.Ways.{left_by}
use Rattle.memory.specs.Layout.{word, taken, memory_words, place_words, id_word, first_row_word, dependencies_word, provisions_word, realms_word, mask_word, domain_word}
use Rattle.memory.specs.Layout.{first_word, next_word, occupancy_word}
use Rattle.memory.specs.View.{life_at, plugin_at, view}
use Rattle.memory.specs.Writes.{find_at, put_life}
use Rattle.memory.specs.Frames.{life_length, life_before}
use Rattle.memory.specs.Stores.{plugin_put, plugin_other}
use Rattle.memory.specs.Known.{at_below, at_taken, at_id}
use Rattle.memory.specs.declared.Life.{Life}
use Rattle.memory_rows.specs.Dense.{Dense, Refines}
use Rattle.memory_rows.specs.Stored.{same_dense, life_dense, changed_view, known_elim}
use Rattle.memory_values.specs.After.{drop_taken, drop_elsewhere, drop_plugin}
use Rattle.registry_ready_finish.specs.Finished.{finished_to}
use Rattle.memory.specs.Lives.{finished_life}
use Rattle.registry_ready_finish.specs.Laws.{rested}

module _ (m : List ℕ) (d : Dense m) where
  abbrev Finished : Outcome → Type 0
  Finished o = Refines m (finished_to m o) o

  -- a life stored, and then no value
  module _ (id i : ℕ) (e : find_at m id ≡ Some i) where
    abbrev l : Life
    l = finished_life (life_at m i) (or_else (rules.cell (life_at m i).phase rules.Finish) (life_at m i).phase)

    abbrev m₁ : List ℕ
    m₁ = put_life m i l

    abbrev m₂ : List ℕ
    m₂ = set m₁ (i * place_words + mask_word) 0

    size : length m₁ ≡ memory_words
    size = life_length m i l ∙ d.size

    other : (n : ℕ) → n ≢ i * place_words + mask_word → word m₂ n ≡ word m₁ n
    other n a = get_or-set_other m₁ (i * place_words + mask_word) n 0 0 a

    taken_put : (j : ℕ) → taken m₁ j ≡ taken m j
    unfolding taken
    taken_put j = rw (life_before m i l occupancy_word (omega arith))

    plugin : plugin_at m₂ i ≡ rested (plugin_at m i)
    unfolding plugin_at
    plugin =
        drop_plugin m₁ i (at_below m id i e) size
        ∙ ap (λ (p : Plugin). with_provisions (map rules.dropped p.provisions) p) (plugin_put m i l (at_below m id i e) d.size)

    words : finished_to m (stores (rested (plugin_at m i)) []) ≡ m₂
    unfolding left_by plugin_at
    words = rw (at_id m id i e, e)

    dense : Dense m₂
    dense = same_dense m₁ m₂ (life_dense m i l d) (length-set m₁ (i * place_words + mask_word) 0) (other occupancy_word (λ x. omega arith))
        (λ j. other (j * place_words + id_word) (λ x. omega arith))
        (λ j. other (j * place_words + first_row_word) (λ x. omega arith))
        (λ j. other (j * place_words + dependencies_word) (λ x. omega arith))
        (λ j. other (j * place_words + provisions_word) (λ x. omega arith))
        (λ j. other (j * place_words + realms_word) (λ x. omega arith))

    finished : Finished (stores (rested (plugin_at m i)) [])
    unfolding plugin_at
    finished =
        let h = at_below m id i e in
        rw words record {
          registry =
              changed_view m m₂ i d.alone (at_taken m id i e)
              (other domain_word (λ x. omega arith) ∙ life_before m i l domain_word (omega arith))
              (other first_word (λ x. omega arith) ∙ life_before m i l first_word (omega arith))
              (other next_word (λ x. omega arith) ∙ life_before m i l next_word (omega arith))
              (λ j. drop_taken m₁ i h size j ∙ taken_put j)
              (ap (λ (p : Plugin). p.id) plugin)
              (λ j a n. drop_elsewhere m₁ i h size j a n ∙ plugin_other m i l h d.size j a (λ x. n (sym x))) []
              ∙ ap (λ p. after (view m) (stores p [])) plugin;
          dense = dense;
        }

  finished_refused : (x : Refusal) → Finished (refuses x [])
  unfolding left_by after
  finished_refused x = record { registry = refl; dense = d }

  pub finish_refines : (id : ℕ) → Refines m (finished_to m (rules.finish (view m) id)) (rules.finish (view m) id)
  unfolding rules.finish
  finish_refines id = known_elim m Finished id _ (finished_refused Unknown) λ i e. checked_elim Finished _ _ finished_refused λ h. finished id i e
