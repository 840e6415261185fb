-- Demand 3, of the engine: over any operations on a memory from any start, a call is accepted exactly if its admission is still
-- live, by the history alone.
use Rattle.std.specs.Prelude.{ℕ, ◌≤◌, ◌≡◌, refl, List, [], ◌∷◌, length}
use Rattle.std.proofs.Common.{sym, ap, ◌∙◌, subst}
use Rattle.rules.specs.Basics.{last}
use Rattle.rules.specs.Holds.{Registry, opened}
use Rattle.rules.specs.Admission.{Invocation}
use Rattle.rules.specs.Steps.{Op, event, answer_to, Run, go_on_with, run, Call}
use Rattle.rules_laws.specs.History.{story, Demand3}
use Rattle.rules_laws.proofs.Demand3 as rules
use Rattle.memory.specs.View.{view}
use Rattle.memory.specs.Layout.{memory_words}
use Rattle.registry_remove.specs.Refines.{open_refines}
use Rattle.demands.specs.Starts as starts
use Rattle.demands.specs.Starts.{Sound, Start, start_view, blank}
use Rattle.demands.proofs.Starts.{begun_start}
use Rattle.demands.proofs.Demand2.{sound_refines, keeps}
use Rattle.demands.specs.Demand3.{Night, onward, onward_with, night, seen}

onward_same : (s : Night) → Sound s.words → (ops : List Op) → seen (onward_with s ops) ≡ go_on_with (seen s) ops
onward_same s w [] = refl
onward_same s w (o ∷ os) =
    onward_same (onward s o) (keeps s.words w o) os
    ∙ ap (λ (r : Registry). go_on_with (record { registry = r; events = event (view s.words) o ∷ s.events }) os) (sound_refines s.words w o).registry

pub same_run : (m : List ℕ) → Sound m → (ops : List Op) → seen (night m ops) ≡ run (view m) ops
same_run m w ops = onward_same (record { words = m; events = [] }) w ops

-- From any start.
pub demand_3 : (m : List ℕ) → Start m → (ops : List Op) (t : Invocation)
    → Demand3 (view m).domain t (story (view m) t.id (night m ops).events) (answer_to (view (night m ops).words) (Call t))
demand_3 m w ops t =
    subst (λ (s : Run). Demand3 (view m).domain t (story (view m) t.id s.events) (answer_to s.registry (Call t)))
    (sym (same_run m w.sound ops)) (rules.demand_3 (view m) (start_view m w) ops t)

-- From an opening, whose registry is fresh.
module _ (m : List ℕ) (size : length m ≡ memory_words) (domain first : ℕ) (h : first ≤ last) (ops : List Op) where
  abbrev n : Night
  n = night (blank m domain first) ops

  pub demand_3_fresh : (t : Invocation) → Demand3 domain t (story (opened domain first) t.id n.events) (answer_to (view n.words) (Call t))
  demand_3_fresh t =
      subst (λ (r : Registry). Demand3 r.domain t (story r t.id n.events) (answer_to (view n.words) (Call t)))
      (open_refines m domain first size) (demand_3 (blank m domain first) (begun_start _ (starts.opened m size domain first h)) ops t)
