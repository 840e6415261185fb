-- Document 02 [4]: the conditions that a text meets, in its order and words.
use Rattle.std.specs.Prelude.{ℕ, zero, suc, ◌+◌, Bool, true, not, ◌&&◌, ◌||◌, List, [], ◌∷◌, ◌++◌, map, eqb, leb, ltb, length, take, Option, Some, None}
use Rattle.rules.specs.Basics.{any, all, first, only, every, ◌⊃◌, is_some, is_none, or_none, twice}
use Rattle.rules.specs.Limits.{max_plugins, max_rows, max_dependency_keys, max_provision_keys, max_realm_rows, max_dependencies}
use Rattle.rules.specs.Holds.{Port, Realms, table_of, Provision, Plugin, provided, provides, running, sum_rows, same_port, is_idle, is_active}
use Rattle.rules.specs.Holds.{Root, Unissued, Queued, Spent}
use Rattle.rules.specs.Ports.{rising, resolve, same_ports}
use Rattle.rules.specs.Dependencies.{dependency_list}
use Rattle.rules.specs.Registration.{inherited_from, repeats}
use Rattle.rules.specs.Phases.{is_spent}
use Rattle.rules.specs.Admission.{is_unissued}
use Rattle.rules.specs.Text.{Said}

-- the plugin of the text with this id
abbrev pub among : List Plugin → ℕ → Option Plugin
among ps x = first (λ (p : Plugin). eqb p.id x) ps

-- "Ids rise strictly, from first to below next, and first is at most next."
abbrev pub ids_rise : (first next : ℕ) → List Plugin → Bool
ids_rise first next [] = leb first next
ids_rise first next (p ∷ ps) = leb first p.id && ids_rise (p.id + 1) next ps

-- "A parent is none or a lower id in the text."
abbrev pub parent_lower : List Plugin → Plugin → Bool
parent_lower ps p = or_none (λ x. ltb x p.id && is_some (among ps x)) p.parent

-- "Document 01's limits on plugins, rows and lists hold;"
abbrev pub within_limits : List Plugin → Bool
within_limits ps = leb (length ps) max_plugins && leb (sum_rows ps) max_rows

abbrev pub lists_short : Plugin → Bool
lists_short p =
    leb (length p.realms.rows) max_realm_rows
    && leb (length p.dependencies) max_dependencies
    && leb (length p.provisions) max_provision_keys

-- "realm keys rise strictly."
abbrev pub realms_rise : Plugin → Bool
realms_rise p = rising p.realms.rows

-- "All provisions and anchors of all plugins are different ports,"
abbrev pub claims : Plugin → List Port
claims p = p.anchor ∷ provided p

abbrev pub claims_of : List Plugin → List Port
claims_of [] = []
claims_of (p ∷ ps) = claims p ++ claims_of ps

abbrev pub ports_differ : List Plugin → Bool
ports_differ ps = not (repeats (claims_of ps))

-- "and each provision has the realm its key resolves to."
abbrev pub resolved_in : Realms → Port → Bool
resolved_in z q = same_port (resolve z q.key) q

abbrev pub provisions_resolved : Plugin → Bool
provisions_resolved p = all (resolved_in (table_of p.realms)) (provided p)

-- "A dependency list is one that document 01's rule gives from the parent's list and some at most 16 different declared keys."
abbrev pub given_by : Realms → (provisions : List Port) (anchor : Port) (parents list : List Port) (keys : List ℕ) → Bool
given_by z provisions anchor parents list keys =
    leb (length keys) max_dependency_keys && not (twice keys) && same_ports (dependency_list z provisions anchor keys parents) list

-- The list begins with the ports of the declared keys, so the keys of its first ports are tried: n of them, or fewer.
abbrev pub keys_of : List Port → List ℕ
keys_of ports = map (λ (q : Port). q.key) ports

unfoldable pub given_within : ℕ → Realms → (provisions : List Port) (anchor : Port) (parents list : List Port) → Bool
given_within zero z provisions anchor parents list = given_by z provisions anchor parents list []
given_within (suc n) z provisions anchor parents list =
    given_by z provisions anchor parents list (keys_of (take (suc n) list)) || given_within n z provisions anchor parents list

abbrev pub parent_in : List Plugin → Option ℕ → Option Plugin
parent_in ps None = None
parent_in ps (Some x) = among ps x

abbrev pub by_rule : List Plugin → Plugin → Bool
by_rule ps p = given_within max_dependency_keys (table_of p.realms) (provided p) p.anchor (inherited_from (parent_in ps p.parent)) p.dependencies

-- "Loading, Active and Unloading need generation 1 or more."
abbrev pub begun_once : Plugin → Bool
begun_once p = not (is_idle p.phase) ⊃ leb 1 p.generation

-- "Idle has root Unissued and no values;"
abbrev pub idle_clean : Plugin → Bool
idle_clean p = is_idle p.phase ⊃ (is_unissued p.root && all (λ (v : Provision). is_none v.value) p.provisions)

-- "Active has root Spent and every value."
abbrev pub active_whole : Plugin → Bool
active_whole p = is_active p.phase ⊃ (is_spent p.root && not (any (λ (v : Provision). is_none v.value) p.provisions))

-- "A queued revision is not above the revision."
abbrev pub queued_by : Root → ℕ → Bool
queued_by Unissued v = true
queued_by (Queued w a) v = leb w v
queued_by Spent v = true

abbrev pub queued_within : Plugin → Bool
queued_within p = queued_by p.root p.revision

-- "Each dependency of a Loading or Active plugin is provided by an Active one,"
abbrev pub active_in : List Plugin → Port → Bool
active_in ps k = any (λ (q : Plugin). is_active q.phase && provides q k) ps

abbrev pub dependencies_served : List Plugin → Plugin → Bool
dependencies_served ps p = running p ⊃ all (active_in ps) p.dependencies

-- "without cycles." Of those that run, whoever needs none that is left is taken away, again and again; none is left.
abbrev pub needs : Plugin → Plugin → Bool
needs p q = any (provides q) p.dependencies

abbrev pub waits : List Plugin → Plugin → Bool
waits ps p = any (needs p) ps

abbrev pub still_waiting : List Plugin → List Plugin
still_waiting ps = only (waits ps) ps

unfoldable pub none_left_after : ℕ → List Plugin → Bool
none_left_after zero ps = eqb (length ps) 0
none_left_after (suc n) ps = none_left_after n (still_waiting ps)

abbrev pub no_cycles : List Plugin → Bool
no_cycles ps = none_left_after max_plugins (only running ps)

abbrev pub conditions : Said → List Bool
conditions s =
    let ps = s.plugins in
    ids_rise s.first s.next ps
    ∷ all (parent_lower ps) ps
    ∷ within_limits ps
    ∷ all lists_short ps
    ∷ all realms_rise ps
    ∷ ports_differ ps
    ∷ all provisions_resolved ps
    ∷ all (by_rule ps) ps
    ∷ all begun_once ps
    ∷ all idle_clean ps
    ∷ all active_whole ps
    ∷ all queued_within ps
    ∷ all (dependencies_served ps) ps
    ∷ no_cycles ps
    ∷ []

unfoldable pub loadable : Said → Bool
loadable s = every (conditions s)
