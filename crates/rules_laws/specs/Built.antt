-- What every run keeps, from an opening or a load on: no more than document 02 [4]'s conditions, so that a load can start a run.
use Rattle.std.specs.Prelude.{ℕ, ◌≤◌, ◌<◌, ◌≡◌, true, false, List, ◌∷◌, map, length, Some}
use Rattle.rules.specs.Basics.{all, any, is_none, is_some, twice, last}
use Rattle.rules_types.specs.declared.Port.{Port}
use Rattle.rules.specs.Holds.{Provision, Plugin, Registry, plugins, provided, provides, running, lookup, rows_in_use, table_of}
use Rattle.rules_types.specs.declared.Phase.TheVariants.{Idle, Active}
use Rattle.rules_types.specs.declared.Root.TheVariants.{Unissued, Queued, Spent}
use Rattle.rules.specs.Holds.{is_idle}
use Rattle.rules.specs.Ports.{rising, resolve}
use Rattle.rules.specs.Dependencies.{dependency_list}
use Rattle.rules.specs.Registration.{parent_of, inherited_from, repeats}
use Rattle.rules.specs.Conditions.{needs}
use Rattle.rules_laws.specs.Laws.Members.{In}
use Rattle.rules.specs.Limits.{max_plugins, max_rows, max_dependency_keys, max_provision_keys, max_dependencies, max_realm_rows}

-- What registration fixes of a plugin: the limits on its lists, realm keys that rise strictly, and ports that are different and have
-- the realm that their key resolves to by the plugin's own list.
pub record Shaped (p : Plugin) : Type 0 where
  pub realm_rows_lem : length p.realms.rows ≤ max_realm_rows
  pub rise : rising p.realms.rows ≡ true
  pub provisions : length p.provisions ≤ max_provision_keys
  pub dependencies : length p.dependencies ≤ max_dependencies
  pub resolved : (q : Port) → In q (provided p) → resolve (table_of p.realms) q.key ≡ q
  pub apart : repeats (p.anchor ∷ provided p) ≡ false

-- Its dependency list is one that the rule gives from the parent's list and some at most 16 different declared keys.
pub record Ruled (parents : List Port) (p : Plugin) : Type 0 where
  pub keys : List ℕ
  pub few : length keys ≤ max_dependency_keys
  pub differ : twice keys ≡ false
  pub gives : dependency_list (table_of p.realms) (provided p) p.anchor keys parents ≡ p.dependencies

-- What later operations change of it.
pub record Lively (p : Plugin) : Type 0 where
  -- Idle has root Unissued and no values; Active has root Spent and every value
  pub idle_root : p.phase ≡ Idle → p.root ≡ Unissued
  pub idle_values : p.phase ≡ Idle → all (λ (v : Provision). is_none v.value) p.provisions ≡ true
  pub active_root : p.phase ≡ Active → p.root ≡ Spent
  pub active_values : p.phase ≡ Active → any (λ (v : Provision). is_none v.value) p.provisions ≡ false
  pub begun : is_idle p.phase ≡ false → 1 ≤ p.generation
  -- a queued revision is not above the revision
  pub queued : (v a : ℕ) → p.root ≡ Queued v a → v ≤ p.revision
  pub revision : p.revision ≤ last
  pub generation : p.generation ≤ last

-- The port has an Active provider.
pub record Served (r : Registry) (k : Port) : Type 0 where
  pub id : ℕ
  pub plugin : Plugin
  pub registered : lookup r id ≡ Some plugin
  pub active : plugin.phase ≡ Active
  pub gives : provides plugin k ≡ true

-- A Loading or Active plugin depends on the port.
pub record Wanted (r : Registry) (k : Port) : Type 0 where
  pub id : ℕ
  pub plugin : Plugin
  pub registered : lookup r id ≡ Some plugin
  pub runs : running plugin ≡ true
  pub depends : In k plugin.dependencies

-- Who provides what.
pub record Wired (r : Registry) : Type 0 where
  -- each dependency of a Loading or Active plugin has an Active provider
  pub served : (k : Port) → Wanted r k → Served r k
  -- two providers of a port are one
  pub sole : (x y : ℕ) (p q : Plugin) (k : Port) → lookup r x ≡ Some p → lookup r y ≡ Some q → provides p k ≡ true → provides q k ≡ true → x ≡ y

-- No cycles: a rank falls from each plugin that runs to each one that runs and that it needs.
pub record Ranked (ps : List Plugin) : Type 0 where
  pub rank : Plugin → ℕ
  pub falls : (a b : Plugin) → In a ps → In b ps → running a ≡ true → running b ≡ true → needs a b ≡ true → rank b < rank a

-- Of each registered plugin: its id was issued, its parent is registered and older, and the above.
pub record Member (r : Registry) (a : Plugin) : Type 0 where
  pub issued : r.first ≤ a.id
  pub below : a.id < r.next
  pub older : (x : ℕ) → a.parent ≡ Some x → x < a.id
  pub parent : (x : ℕ) → a.parent ≡ Some x → is_some (lookup r x) ≡ true
  pub shaped : Shaped a
  pub lively : Lively a

abbrev pub ids_of : List Plugin → List ℕ
ids_of ps = map (λ (p : Plugin). p.id) ps

pub record Built (r : Registry) : Type 0 where
  pub room : length r.places ≡ max_plugins
  pub first : r.first ≤ r.next
  pub next : r.next ≤ last
  pub rows : rows_in_use r ≤ max_rows
  -- no id stands in two places
  pub once : twice (ids_of (plugins r)) ≡ false
  pub members : (a : Plugin) → In a (plugins r) → Member r a
  pub wired : Wired r
  -- dependency lists come from the rule
  pub ruled : (a : Plugin) → In a (plugins r) → Ruled (inherited_from (parent_of r a.parent)) a
  pub ranked : Ranked (plugins r)
