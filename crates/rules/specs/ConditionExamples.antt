-- Document 02 [4]'s conditions, computed: what breaks each of them alone, and what they leave free.
use Rattle.std.specs.Prelude.{ℕ, zero, suc, ◌+◌, ◌*◌, ◌^◌, ◌-◌, ◌≡◌, refl, true, false, not, List, [], ◌∷◌, ◌++◌, map, eqb, Option, Some, None}
use Rattle.rules_types.specs.declared.Port.{Port}
use Rattle.rules_types.specs.declared.Phase.{Phase}
use Rattle.rules_types.specs.declared.Phase.TheVariants.{Idle, Loading, Active, Unloading}
use Rattle.rules_types.specs.declared.Root.{Root}
use Rattle.rules_types.specs.declared.Root.TheVariants.{Unissued, Queued, Spent}
use Rattle.rules.specs.Holds.{port, First, Provision, Plugin, changed, never_begun, with_revision, with_retired}
use Rattle.rules.specs.Ports.{resolve}
use Rattle.rules.specs.Dependencies.{dependency_list}
use Rattle.rules.specs.Registration.{unoffered}
use Rattle.rules.specs.Text.{Said}
use Rattle.rules.specs.Conditions.{given_within, none_left_after, conditions, loadable}

-- the ports of some keys in a realm
abbrev at : ℕ → List ℕ → List Port
at realm keys = map (λ k. port k realm) keys

-- from k on, so many
abbrev from : ℕ → ℕ → List ℕ
from k zero = []
from k (suc n) = k ∷ from (k + 1) n

-- a plugin as it is registered, with these rows of realms, dependencies and provisions
abbrev registered : List Port → ℕ → Option ℕ → List Port → List Port → Plugin
registered rows id parent dependencies provisions = record {
  id = id;
  parent = parent;
  anchor = port (1000 + id) 0;
  realms = record { edition = First; rows = rows };
  dependencies = dependencies;
  provisions = map unoffered provisions;
  revision = 0;
  payload = 0;
  phase = Idle;
  retired = false;
  generation = never_begun;
  root = Unissued;
}

-- key 2 is in realm 5, any other in 0
abbrev plugin : ℕ → Option ℕ → List Port → List Port → Plugin
plugin = registered (at 5 (2 ∷ []))

abbrev alone : ℕ → Plugin
alone id = plugin id None [] []

-- with these rows of realms
abbrev within : List Port → Plugin
within rows = registered rows 1 None [] []

-- with provisions and dependencies of these keys in realm 0
abbrev giving : List ℕ → ℕ → Plugin
giving keys id = plugin id None [] (at 0 keys)

abbrev needing : List ℕ → ℕ → Plugin
needing keys id = plugin id None (at 0 keys) []

-- in that phase with that root, begun so often, each provision with that value
abbrev lives : Phase → Root → ℕ → Option ℕ → Plugin → Plugin
lives phase root generation value p =
    changed p (map (λ (v : Provision). record { port = v.port; value = value }) p.provisions) 0 0 phase false generation root

abbrev active : Plugin → Plugin
active p = lives Active Spent 1 (Some 7) p

-- a text from first to next, and one with room on both sides
abbrev between : ℕ → ℕ → List Plugin → Said
between first next ps = record { domain = 7; first = first; next = next; plugins = ps }

abbrev says : List Plugin → Said
says ps = between 0 1000 ps

-- all conditions hold but the n-th of the document's order, so the text does not load
abbrev Breaks : ℕ → Said → Type 0
Breaks n s = (conditions s ≡ map (λ k. not (eqb k n)) (from 1 14)) × (loadable s ≡ false)

-- so many keys of its own declared, and its parent's list behind them
abbrev heir : ℕ → Option ℕ → ℕ → List Port → Plugin
heir id parent keys inherited = plugin id parent (at 0 (from (id * 16) keys) ++ inherited) []

-- three generations of 16 keys each, and one with so many more
abbrev family : ℕ → Said
family more =
    let elder = heir 1 None 16 [] in
    let parent = heir 2 (Some 1) 16 elder.dependencies in
    let child = heir 3 (Some 2) 16 parent.dependencies in
    says (elder ∷ parent ∷ child ∷ heir 4 (Some 3) more child.dependencies ∷ [])

-- 32 plugins: one of 17 rows, its 30 children of 33, and one with 15 provisions, which has 16 rows and so many dependencies
abbrev crowd : ℕ → Said
crowd dependencies =
    let elder = heir 1 None 16 [] in
    let children = map (λ id. heir id (Some 1) 16 elder.dependencies) (from 2 30) in
    says (elder ∷ children ++ plugin 32 None (at 0 (from 9 dependencies)) (at 0 (from 2000 15)) ∷ [])

pub record Broken : Type 0 where
  -- 1: ids rise strictly, from first to below next
  pub rise : Breaks 1 (says (alone 2 ∷ alone 1 ∷ []))
  pub from_first : Breaks 1 (between 2 9 (alone 1 ∷ []))
  pub below_next : Breaks 1 (between 0 1 (alone 1 ∷ []))
  pub first_above_next : Breaks 1 (between 1 0 [])
  -- 2: a parent is none or a lower id in the text
  pub own_parent : Breaks 2 (says (plugin 1 (Some 1) [] [] ∷ []))
  pub later_parent : Breaks 2 (says (plugin 1 (Some 2) [] [] ∷ alone 2 ∷ []))
  pub unknown_parent : Breaks 2 (says (plugin 1 (Some 0) [] [] ∷ []))
  -- 3, 4: the limits on plugins and rows, and on lists
  pub plugins : Breaks 3 (says (map alone (from 1 33)))
  pub rows : Breaks 3 (crowd 2)
  pub dependencies : Breaks 4 (family 1)
  pub provisions : Breaks 4 (says (giving (from 10 16) 1 ∷ []))
  pub realm_rows_lem : Breaks 4 (says (within (at 1 (from 1 17)) ∷ []))
  -- 5: realm keys rise strictly
  pub realms_fall : Breaks 5 (says (within (at 1 (3 ∷ 2 ∷ [])) ∷ []))
  pub realms_alike : Breaks 5 (says (within (port 3 1 ∷ port 3 2 ∷ []) ∷ []))
  -- 6, 7: all provisions and anchors are different, and provisions resolved
  pub two_provide : Breaks 6 (says (giving (10 ∷ []) 1 ∷ giving (10 ∷ []) 2 ∷ []))
  pub provides_twice : Breaks 6 (says (giving (10 ∷ 10 ∷ []) 1 ∷ []))
  pub provides_anchor : Breaks 6 (says (giving (1002 ∷ []) 1 ∷ alone 2 ∷ []))
  pub unresolved : Breaks 7 (says (giving (2 ∷ []) 1 ∷ []))
  -- 8: the rule gives the list
  pub undeclared : Breaks 8 (says (needing (2 ∷ []) 1 ∷ []))
  pub declared_twice : Breaks 8 (says (needing (10 ∷ 10 ∷ []) 1 ∷ []))
  pub declared_17 : Breaks 8 (says (needing (from 10 17) 1 ∷ []))
  pub not_inherited : Breaks 8 (says (needing (10 ∷ []) 1 ∷ plugin 2 (Some 1) [] [] ∷ []))
  -- 9, 10, 11, 12: generation, Idle, Active, a queued revision
  pub never_begun_lem : Breaks 9 (says (lives Unloading Unissued 0 None (alone 1) ∷ []))
  pub idle_root : Breaks 10 (says (lives Idle Spent 1 None (alone 1) ∷ []))
  pub idle_value : Breaks 10 (says (lives Idle Unissued 1 (Some 7) (giving (10 ∷ []) 1) ∷ []))
  pub active_root : Breaks 11 (says (lives Active Unissued 1 None (alone 1) ∷ []))
  pub active_value : Breaks 11 (says (lives Active Spent 1 None (giving (10 ∷ []) 1) ∷ []))
  pub queued_above : Breaks 12 (says (lives Loading (Queued 1 0) 1 None (alone 1) ∷ []))
  -- 13, 14: an Active provider, without cycles
  pub unprovided : Breaks 13 (says (active (needing (10 ∷ []) 1) ∷ []))
  pub loading_unprovided : Breaks 13 (says (lives Loading Spent 1 None (needing (10 ∷ []) 1) ∷ []))
  pub loading_provider : Breaks 13 (says (active (needing (1002 ∷ []) 1) ∷ lives Loading Spent 1 None (alone 2) ∷ []))
  pub itself : Breaks 14 (says (active (needing (1001 ∷ []) 1) ∷ []))
  pub each_other : Breaks 14 (says (active (needing (1002 ∷ []) 1) ∷ active (needing (1001 ∷ []) 2) ∷ []))

pub broken : Broken
unfolding loadable given_within none_left_after resolve dependency_list
broken = record {
  rise = (refl, refl);
  from_first = (refl, refl);
  below_next = (refl, refl);
  first_above_next = (refl, refl);
  own_parent = (refl, refl);
  later_parent = (refl, refl);
  unknown_parent = (refl, refl);
  plugins = (refl, refl);
  rows = (refl, refl);
  dependencies = (refl, refl);
  provisions = (refl, refl);
  realm_rows_lem = (refl, refl);
  realms_fall = (refl, refl);
  realms_alike = (refl, refl);
  two_provide = (refl, refl);
  provides_twice = (refl, refl);
  provides_anchor = (refl, refl);
  unresolved = (refl, refl);
  undeclared = (refl, refl);
  declared_twice = (refl, refl);
  declared_17 = (refl, refl);
  not_inherited = (refl, refl);
  never_begun_lem = (refl, refl);
  idle_root = (refl, refl);
  idle_value = (refl, refl);
  active_root = (refl, refl);
  active_value = (refl, refl);
  queued_above = (refl, refl);
  unprovided = (refl, refl);
  loading_unprovided = (refl, refl);
  loading_provider = (refl, refl);
  itself = (refl, refl);
  each_other = (refl, refl);
}

-- What they leave free.
abbrev Loads : Said → Type 0
Loads s = loadable s ≡ true

-- plugin 1 in some way, with a child
abbrev parental : (Plugin → Plugin) → Said
parental f = says (f (alone 1) ∷ plugin 2 (Some 1) [] [] ∷ [])

pub record Free : Type 0 where
  pub nothing : Loads (between 5 5 [])
  pub last_next : Loads (between 0 (2 ^ 64 - 1) (alone 1 ∷ []))
  pub retired_parent : Loads (parental (with_retired true))
  pub unloading_parent : Loads (parental (lives Unloading Spent 1 None))
  pub full : Loads (says (map alone (from 1 32)))
  pub rows : Loads (crowd 1)
  pub dependencies : Loads (family 0)
  pub declared_16 : Loads (says (needing (from 10 16) 1 ∷ []))
  pub inherited : Loads (says (registered [] 1 None (at 0 (2 ∷ [])) [] ∷ plugin 2 (Some 1) (port 2 0 ∷ port 2 5 ∷ []) [] ∷ []))
  pub loading_called : Loads (says (lives Loading Spent 1 None (alone 1) ∷ []))
  pub unloading_queued : Loads (says (lives Unloading (Queued 0 7) 1 (Some 7) (giving (10 ∷ []) 1) ∷ []))
  pub idle_revised : Loads (says (with_revision 3 (alone 1) ∷ []))
  pub unloading_itself : Loads (says (lives Unloading Spent 1 None (needing (1001 ∷ []) 1) ∷ []))
  pub idle_itself : Loads (says (needing (1001 ∷ []) 1 ∷ []))
  pub retired_provider : Loads (says (active (needing (1002 ∷ []) 1) ∷ with_retired true (active (alone 2)) ∷ []))

pub free : Free
unfolding loadable given_within none_left_after resolve dependency_list
free = record {
  nothing = refl;
  last_next = refl;
  retired_parent = refl;
  unloading_parent = refl;
  full = refl;
  rows = refl;
  dependencies = refl;
  declared_16 = refl;
  inherited = refl;
  loading_called = refl;
  unloading_queued = refl;
  idle_revised = refl;
  unloading_itself = refl;
  idle_itself = refl;
  retired_provider = refl;
}
