-- Document 01, "What the registry holds".
use Rattle.std.specs.Prelude.{ℕ, zero, suc, ◌+◌, Bool, true, false, ◌&&◌, ◌||◌, List, [], ◌∷◌, map, eqb, length, Option, Some, None}
pub use Rattle.rules_types.specs.declared.Port.{Port}
pub use Rattle.rules_types.specs.declared.Phase.{Phase}
pub use Rattle.rules_types.specs.declared.Phase.TheVariants.{Idle, Loading, Active, Unloading}
pub use Rattle.rules_types.specs.declared.Root.{Root}
pub use Rattle.rules_types.specs.declared.Root.TheVariants.{Unissued, Queued, Spent}
pub use Rattle.rules_types.specs.declared.Edition.{Edition}
pub use Rattle.rules_types.specs.declared.Edition.TheVariants.{First, Second}
pub use Rattle.rules_types.specs.Kinds.{port, default_realm, never_begun, edition_number, default_of}
use Rattle.rules.specs.Basics.{any, first}
use Rattle.rules.specs.Limits.{max_plugins}

abbrev pub same_port : Port → Port → Bool
same_port p q = eqb p.key q.key && eqb p.realm q.realm

abbrev pub is_in : Port → List Port → Bool
is_in p l = any (same_port p) l

abbrev pub is_idle : Phase → Bool
is_idle Idle = true
is_idle Loading = false
is_idle Active = false
is_idle Unloading = false

abbrev pub is_loading : Phase → Bool
is_loading Idle = false
is_loading Loading = true
is_loading Active = false
is_loading Unloading = false

abbrev pub is_active : Phase → Bool
is_active Idle = false
is_active Loading = false
is_active Active = true
is_active Unloading = false

abbrev pub is_unloading : Phase → Bool
is_unloading Idle = false
is_unloading Loading = false
is_unloading Active = false
is_unloading Unloading = true

-- A realm table: its rows of (key, realm), and the realm of any other key.
pub record Realms : Type 0 where
  pub rows : List Port
  pub other : ℕ

-- Document 02 [5]: a realm list, with its edition and its default realm.
pub record RealmList : Type 0 where
  pub edition : Edition
  pub rows : List Port

-- Both editions are read as one table.
abbrev pub table_of : RealmList → Realms
table_of l = record { rows = l.rows; other = default_of l.edition }

-- A provision, with its value or none.
pub record Provision : Type 0 where
  pub port : Port
  pub value : Option ℕ

pub record Plugin : Type 0 where
  pub id : ℕ
  pub parent : Option ℕ
  pub anchor : Port
  pub realms : RealmList
  pub dependencies : List Port
  pub provisions : List Provision
  pub revision : ℕ
  pub payload : ℕ
  pub phase : Phase
  pub retired : Bool
  pub generation : ℕ
  pub root : Root

abbrev pub provided : Plugin → List Port
provided p = map (λ (v : Provision). v.port) p.provisions

-- Loading or Active
abbrev pub running : Plugin → Bool
running p = is_loading p.phase || is_active p.phase

-- The 32 plugin places, each free (none) or taken.
abbrev pub Places : Type 0
Places = List (Option Plugin)

pub record Registry : Type 0 where
  pub domain : ℕ
  pub first : ℕ
  pub next : ℕ
  pub places : Places

abbrev pub free_places : ℕ → Places
free_places zero = []
free_places (suc n) = None ∷ free_places n

-- Open: domain, first id and next id are all from its opening (next = first).
abbrev pub opened : ℕ → ℕ → Registry
opened d f = record { domain = d; first = f; next = f; places = free_places max_plugins }

-- The registered plugins, in the order of their places.
abbrev pub held : Places → List Plugin
held [] = []
held (None ∷ ps) = held ps
held (Some p ∷ ps) = p ∷ held ps

abbrev pub plugins : Registry → List Plugin
plugins r = held r.places

unfoldable pub lookup : Registry → ℕ → Option Plugin
lookup r id = first (λ (p : Plugin). eqb p.id id) (plugins r)

unfoldable pub count : Registry → ℕ
count r = length (plugins r)

-- A port's provider is the registered plugin that has it as provision or anchor.
abbrev pub provides : Plugin → Port → Bool
provides p q = is_in q (provided p) || same_port q p.anchor

unfoldable pub provider : Registry → Port → Option Plugin
provider r q = first (λ (p : Plugin). provides p q) (plugins r)

-- Rows in use equal the sum of dependencies + provisions + 1.
abbrev pub rows_of : Plugin → ℕ
rows_of p = length p.dependencies + length p.provisions + 1

abbrev pub sum_rows : List Plugin → ℕ
sum_rows [] = 0
sum_rows (p ∷ ps) = rows_of p + sum_rows ps

unfoldable pub rows_in_use : Registry → ℕ
rows_in_use r = sum_rows (plugins r)

-- A plugin with what operations change: values, revision, payload, phase, retired mark, generation, root.
abbrev pub changed : Plugin → List Provision → ℕ → ℕ → Phase → Bool → ℕ → Root → Plugin
changed p provisions revision payload phase retired generation root = record {
  id = p.id;
  parent = p.parent;
  anchor = p.anchor;
  realms = p.realms;
  dependencies = p.dependencies;
  provisions = provisions;
  revision = revision;
  payload = payload;
  phase = phase;
  retired = retired;
  generation = generation;
  root = root;
}

abbrev pub with_provisions : List Provision → Plugin → Plugin
with_provisions v p = changed p v p.revision p.payload p.phase p.retired p.generation p.root

abbrev pub with_revision : ℕ → Plugin → Plugin
with_revision v p = changed p p.provisions v p.payload p.phase p.retired p.generation p.root

abbrev pub with_payload : ℕ → Plugin → Plugin
with_payload v p = changed p p.provisions p.revision v p.phase p.retired p.generation p.root

abbrev pub with_phase : Phase → Plugin → Plugin
with_phase v p = changed p p.provisions p.revision p.payload v p.retired p.generation p.root

abbrev pub with_retired : Bool → Plugin → Plugin
with_retired v p = changed p p.provisions p.revision p.payload p.phase v p.generation p.root

abbrev pub with_generation : ℕ → Plugin → Plugin
with_generation v p = changed p p.provisions p.revision p.payload p.phase p.retired v p.root

abbrev pub with_root : Root → Plugin → Plugin
with_root v p = changed p p.provisions p.revision p.payload p.phase p.retired p.generation v
