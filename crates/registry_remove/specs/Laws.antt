-- What removal comes to where the id is found in the words, and where it is not.
use Rattle.std.specs.Prelude.{ℕ, ◌%◌, ◌<◌, ◌≡◌, Bool, true, false, not, ◌&&◌, List, [], ◌∷◌, eqb, Some, None}
use Rattle.std.proofs.Common.{mod-eq_of_lt, ◌∙◌}
use Rattle.std.proofs.Math.Path.{sym, ap}
use Rattle.rules.specs.Basics.{any, holds}
use Rattle.rules.specs.Holds.{Plugin, plugins, is_idle}
use Rattle.rules.specs.Refusals.{Unknown, InvalidState, HasChildren}
use Rattle.rules.specs.Outcomes.{Accepted, Outcome, refuses, removes, ◌⇒◌, checked, Meets}
use Rattle.rules.specs.Retirement.{is_child_of, remove}
use Rattle.memory.specs.Ways.{left_by}
use Rattle.memory.specs.View.{parent_at, life_at, plugin_at, view}
use Rattle.memory.specs.Writes.{find_at}
use Rattle.memory.specs.Known.{at_place, at_known, none_known}
use Rattle.memory.specs.declared.Life.{Life}
use Rattle.memory.specs.Layout.{places}
use Rattle.memory_rows.specs.Moves.{freed_place}
use Rattle.registry_remove.specs.Words.{removed_from}

abbrev pub removal : List ℕ → ℕ → Plugin → Outcome
removal m id p =
    checked
    ((not (is_idle p.phase && p.retired) ⇒ InvalidState)
    ∷ (any (is_child_of id) (plugins (view m)) ⇒ HasChildren)
    ∷ [])
    (removes id [])

pub remove_none : (m : List ℕ) (id : ℕ) → find_at m id ≡ None → remove (view m) id ≡ refuses Unknown []
unfolding remove
remove_none m id e = none_known m id e (removal m id)

pub remove_found : (m : List ℕ) (id i : ℕ) → find_at m id ≡ Some i → remove (view m) id ≡ removal m id (plugin_at m i)
unfolding remove
remove_found m id i e = at_known m id i e (removal m id)

module _ (m : List ℕ) (id i : ℕ) (life : Life) (b : Bool) (e : find_at m id ≡ Some i) (l : life ≡ life_at m (i % places))
    (t : b ≡ (is_idle life.phase && life.retired)) where
  removable : (is_idle (plugin_at m i).phase && (plugin_at m i).retired) ≡ b
  unfolding plugin_at
  removable = sym (t ∙ ap (λ x. is_idle x.phase && x.retired) (l ∙ ap (life_at m) (at_place m id i e)))

  pub remove_not : b ≡ false → remove (view m) id ≡ refuses InvalidState []
  unfolding checked
  remove_not f = remove_found m id i e ∙ rw (removable ∙ f)

  module _ (k : Bool) (y : b ≡ true) (u : k ≡ any (is_child_of id) (plugins (view m))) where
    pub remove_parent : k ≡ true → remove (view m) id ≡ refuses HasChildren []
    unfolding checked
    remove_parent z = remove_found m id i e ∙ rw (removable ∙ y) (rw (sym u ∙ z))

    remove_done : k ≡ false → remove (view m) id ≡ removes id []
    unfolding checked
    remove_done z = remove_found m id i e ∙ rw (removable ∙ y) (rw (sym u ∙ z))

    pub freed_done : (m' : List ℕ) → k ≡ false → m' ≡ freed_place m (i % places) → Meets removed_from (remove (view m) id) m (Accepted []) m'
    unfolding left_by
    freed_done m' z s = (rw (remove_done z), rw (remove_done z, e) (s ∙ ap (freed_place m) (at_place m id i e)))

-- whether the plugin of a place names the id as parent
pub named : (m : List ℕ) (id i : ℕ) → i < places → (b : Bool) → b ≡ holds (eqb id) (parent_at m (i % places)) → b ≡ is_child_of id (plugin_at m i)
unfolding plugin_at
named m id i h b c = c ∙ ap (λ k. holds (eqb id) (parent_at m k)) (mod-eq_of_lt h)
