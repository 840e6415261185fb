-- Of dense words, the registry after removing or opening is the rules', and the words are dense again.
use Rattle.std.specs.Prelude.{ℕ, ◌≡◌, refl, not, ◌&&◌, length, Option, Some, None}
use Rattle.std.proofs.Math.Path.{ap}
use Rattle.std.proofs.Common.{◌∙◌}
use mathlib.Core.List.{List, [], ◌∷◌}
use Rattle.rules.specs.Basics.{any}
use Rattle.rules.specs.Holds.{opened, plugins, is_idle}
use Rattle.rules.specs.Refusals.{Refusal, Unknown, InvalidState, HasChildren}
use Rattle.rules.specs.Outcomes.{Outcome, refuses, removes, ◌⇒◌, after}
use Rattle.rules.specs.Retirement.{is_child_of, remove}
use Rattle.rules_laws.specs.Laws.Tests.{checked_elim}
use Rattle.memory.specs.Ways.{left_by}
use Rattle.memory.specs.Layout.{id_at, memory_words}
use Rattle.memory.specs.View.{plugin_at, view}
use Rattle.memory.specs.Writes.{find_at}
use Rattle.memory.specs.Known.{at_taken, at_id}
use Rattle.memory_rows.specs.Dense.{Dense, Refines}
use Rattle.memory_rows.specs.Freed.{freed_dense, freed_view}
use Rattle.memory.specs.Writes.{opened_with}
use Rattle.memory_rows.specs.Opened.{opened_view}
use Rattle.registry_remove.specs.Words.{removed_from}
use Rattle.registry_remove.specs.Laws.{remove_none, remove_found}

module _ (m : List ℕ) (d : Dense m) where
  abbrev Removed : Outcome → Type 0
  Removed o = Refines m (removed_from m o) o

  removed_refused : (x : Refusal) → Removed (refuses x [])
  unfolding left_by after
  removed_refused x = record { registry = refl; dense = d }

  removed_one : (id i : ℕ) → find_at m id ≡ Some i → Removed (removes id [])
  unfolding left_by plugin_at
  removed_one id i e =
      let t = at_taken m id i e in
      let s : id_at m i ≡ id = at_id m id i e in
      rw e (record { registry = freed_view m i t d [] ∙ ap (λ x. after (view m) (removes x [])) s; dense = freed_dense m i t d })

  pub remove_refines : (id : ℕ) → Refines m (removed_from m (remove (view m) id)) (remove (view m) id)
  remove_refines id = go (find_at m id) refl
    where
      go : (p : Option ℕ) → find_at m id ≡ p → Removed (remove (view m) id)
      go None e = rw (remove_none m id e) (removed_refused Unknown)
      go (Some i) e = rw (remove_found m id i e)
          (checked_elim Removed
          ((not (is_idle (plugin_at m i).phase && (plugin_at m i).retired) ⇒ InvalidState) ∷ (any (is_child_of id) (plugins (view m)) ⇒ HasChildren) ∷ [])
          (removes id []) removed_refused (λ h. removed_one id i e))

-- Opening.
pub open_refines : (m : List ℕ) (domain first : ℕ) → length m ≡ memory_words → view (opened_with m domain first first) ≡ opened domain first
open_refines m domain first size = opened_view m domain first first size
