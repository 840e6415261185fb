-- Of the engine's words: no operation changes the domain or the first id, only begin changes a generation, and rows in use are the
-- ledger's sum.
use Rattle.std.specs.Prelude.{ℕ, ◌+◌, ◌≡◌, List, [], ◌∷◌, Some}
use Rattle.std.proofs.Common.{sym, ap, ◌∙◌}
use Rattle.std.proofs.Math.Path.{subst⁻¹}
use Rattle.rules.specs.Basics.{sum}
use Rattle.rules.specs.Holds.{Plugin, Registry, lookup, rows_in_use}
use Rattle.rules.specs.Steps.{Op, answer_to}
use Rattle.rules_laws.specs.Acts.{act}
use Rattle.rules_laws.specs.Stays.{domain_stays, first_stays, begun_by, generation_stays}
use Rattle.rules_laws.specs.Ledger.{Entry, entered, ledger, entry_rows}
use Rattle.rules_laws.proofs.Ledger.{Booked, start_booked, step_booked}
use Rattle.memory.specs.View.{view}
use Rattle.demands.specs.Leaves.{leaves}
use Rattle.demands.specs.Demand2.{Made, goes_on}
use Rattle.demands.proofs.Demand2.{made_sound, demand_2}
use Rattle.demands.specs.Demand3.{Night, onward, onward_with, night}

module _ (m : List ℕ) (w : Made m) (o : Op) where
  pub domain_stays_words : (view (leaves m o)).domain ≡ (view m).domain
  domain_stays_words = ap (λ (r : Registry). r.domain) (demand_2 m w o).registry ∙ domain_stays (view m) o

  pub first_stays_words : (view (leaves m o)).first ≡ (view m).first
  first_stays_words = ap (λ (r : Registry). r.first) (demand_2 m w o).registry ∙ first_stays (view m) o

  -- only its accepted begin changes a plugin's generation, and makes it one more
  pub generation_stays_words : (x : ℕ) (p q : Plugin) → lookup (view m) x ≡ Some p → lookup (view (leaves m o)) x ≡ Some q
      → q.generation ≡ p.generation + begun_by x (answer_to (view m) o) (act o)
  generation_stays_words x p q e f =
      generation_stays (view m) (made_sound m w).built o x p q e (ap (λ (r : Registry). lookup r x) (sym (demand_2 m w o).registry) ∙ f)

  booked_words : (l : List Entry) → Booked l (view m) → Booked (entered (answer_to (view m) o) (act o) l) (view (leaves m o))
  booked_words l h = subst⁻¹ (Booked (entered (answer_to (view m) o) (act o) l)) (demand_2 m w o).registry (step_booked (view m) (made_sound m w).built l h o)

on_booked : (s : Registry) (n : Night) → Made n.words → (os : List Op) → Booked (ledger s n.events) (view n.words)
    → Booked (ledger s (onward_with n os).events) (view (onward_with n os).words)
on_booked s n w [] h = h
on_booked s n w (o ∷ os) h = on_booked s (onward n o) (goes_on n.words w o) os (booked_words n.words w o _ h)

-- Over any operations on made words.
pub rows_by_ledger_words : (m : List ℕ) → Made m → (ops : List Op)
    → rows_in_use (view (night m ops).words) ≡ sum entry_rows (ledger (view m) (night m ops).events)
rows_by_ledger_words m w ops =
    sym (on_booked (view m) (record { words = m; events = [] }) w ops (start_booked (view m) (made_sound m w).built)).rows
