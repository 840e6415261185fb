-- The ledger: one entry for each accepted registration not yet removed, of dependencies + provisions + 1 rows. It is read off a history,
-- that is off operations, answers, and what the start held.
use Rattle.std.specs.Prelude.{ℕ, ◌+◌, ◌≡◌, refl, List, [], ◌∷◌, ◌++◌, map, eqb, length, get_or, Option, Some, None}
use Rattle.rules.specs.Basics.{first, sum}
use Rattle.rules_types.specs.declared.Port.{Port}
use Rattle.rules.specs.Holds.{Plugin, Registry, plugins, lookup, count, provider, rows_in_use}
use Rattle.rules.specs.Outcomes.{Answer, Refused, Accepted, checked, found, after}
use Rattle.rules.specs.Ports.{bad_realms, resolve, realm_list, bad_edition}
use Rattle.rules.specs.Dependencies.{dependency_list}
use Rattle.rules.specs.Registration.{Definition, dependencies_under, dependencies_of, new_plugin, register}
use Rattle.rules.specs.Retirement.{retire, remove}
use Rattle.rules.specs.Steps.{Op, Event, run, Retire, Remove}
use Rattle.rules.specs.Examples.{fresh, E2-plugins}
use Rattle.rules_laws.specs.Acts.{Act, joins, leaves, begins, stays, act}
use Rattle.rules_laws.specs.Laws.Once.{without}

-- An accepted registration: the id answered, the dependency list that the rule gave it, the number of its provisions.
pub record Entry : Type 0 where
  pub id : ℕ
  pub dependencies : List Port
  pub provisions : ℕ

abbrev pub entry_in : ℕ → List Entry → Option Entry
entry_in x l = first (λ (e : Entry). eqb e.id x) l

-- the list that a parent hands down, by its entry
abbrev pub handed_down : Option Entry → List Port
handed_down None = []
handed_down (Some e) = e.dependencies

abbrev pub parent_in : Option ℕ → List Entry → Option Entry
parent_in None l = None
parent_in (Some x) l = entry_in x l

abbrev pub new_entry : Definition → ℕ → List Entry → Entry
new_entry d id l = record {
  id = id;
  dependencies = dependencies_under (handed_down (parent_in d.parent l)) d;
  provisions = length d.provisions;
}

-- An accepted registration enters, an accepted removal takes its id away, everything else leaves the ledger.
abbrev pub entered : Answer → Act → List Entry → List Entry
entered (Refused n vs) a l = l
entered (Accepted vs) (joins d) l = new_entry d (get_or vs 0 0) l ∷ l
entered (Accepted vs) (leaves id) l = without (λ (e : Entry). e.id) id l
entered (Accepted vs) (begins id) l = l
entered (Accepted vs) stays l = l

-- what a start has entered of a plugin that it holds
abbrev pub held_entry : Plugin → Entry
held_entry p = record { id = p.id; dependencies = p.dependencies; provisions = length p.provisions }

-- The registrations not yet removed, by the events since a start, the latest first.
abbrev pub ledger : Registry → List Event → List Entry
ledger s [] = map held_entry (plugins s)
ledger s (e ∷ es) = entered e.answer (act e.op) (ledger s es)

abbrev pub entry_rows : Entry → ℕ
entry_rows e = length e.dependencies + e.provisions + 1

-- the rows that the ledger has after some operations on a fresh registry
abbrev rows_after : List Op → ℕ
rows_after ops = sum entry_rows (ledger fresh (run fresh ops).events)

-- E2's parent and child have 3 and 5 rows; without the child, 3 are left.
pub ledger_example : (rows_after E2-plugins ≡ 8) × (rows_after (E2-plugins ++ Retire 2 ∷ Remove 2 ∷ []) ≡ 3)
unfolding after checked found lookup count provider rows_in_use bad_realms resolve realm_list bad_edition dependency_list dependencies_of new_plugin register retire remove
ledger_example = (refl, refl)
