-- Document 02 [4]'s conditions as a reader asks them: of each plugin of a text, where those before it stand in a registry; then of all.
use Rattle.std.specs.Prelude.{ℕ, ◌+◌, Bool, true, ◌&&◌, List, [], ◌∷◌, ◌++◌, leb, length, Option}
use Rattle.rules.specs.Basics.{all, is_some, or_none}
use Rattle.rules_types.specs.declared.Port.{Port}
use Rattle.rules.specs.Limits.{max_plugins, max_rows, max_dependency_keys}
use Rattle.rules.specs.Holds.{Realms, table_of, Plugin, Registry, provided, lookup, rows_of, sum_rows}
use Rattle.rules.specs.Ports.{rising}
use Rattle.rules.specs.Registration.{parent_of, inherited_from}
use Rattle.rules.specs.Load.{in_places}
use Rattle.rules.specs.Text.{Said}
use Rattle.rules.specs.Conditions.{lists_short, ports_differ, resolved_in, given_within, begun_once, idle_clean, active_whole, queued_within}
use Rattle.rules.specs.Conditions.{dependencies_served, no_cycles}

-- Its parent stands there; its realm keys rise; its provisions are resolved; and its dependency list is one that the rule gives.
unfoldable pub ports_fit : Registry → Option ℕ → Realms → Port → (provisions dependencies : List Port) → Bool
ports_fit r parent z anchor provisions dependencies =
    or_none (λ x. is_some (lookup r x)) parent
    && rising z.rows
    && all (resolved_in z) provisions
    && given_within max_dependency_keys z provisions anchor (inherited_from (parent_of r parent)) dependencies

abbrev pub ports_join : Registry → Plugin → Bool
ports_join r p = ports_fit r p.parent (table_of p.realms) p.anchor (provided p) p.dependencies

-- What is asked of its life alone.
abbrev pub life_fits : Plugin → Bool
life_fits p = begun_once p && idle_clean p && active_whole p && queued_within p

-- Those before it, as a registry.
abbrev pub standing : List Plugin → Registry
standing done = in_places (record { domain = 0; first = 0; next = 0; plugins = done })

-- The next plugin, whose id is at least so much.
unfoldable pub joins : ℕ → List Plugin → Plugin → Bool
joins from done p = leb from p.id && leb (sum_rows done + rows_of p) max_rows && lists_short p && ports_join (standing done) p && life_fits p

unfoldable pub join_all : ℕ → (done : List Plugin) → List Plugin → Bool
join_all from done [] = true
join_all from done (p ∷ ps) = joins from done p && join_all (p.id + 1) (done ++ p ∷ []) ps

-- one more than the last id; where there is none, the first id
abbrev pub behind_ids : ℕ → List Plugin → ℕ
behind_ids from [] = from
behind_ids from (p ∷ ps) = behind_ids (p.id + 1) ps

-- Whether a text's plugins join one after the other, within the limits, their claims differ, each Loading or Active one is served, without cycles.
abbrev pub joined : Said → Bool
joined s =
    leb (length s.plugins) max_plugins
    && join_all s.first [] s.plugins
    && leb (behind_ids s.first s.plugins) s.next
    && ports_differ s.plugins
    && all (dependencies_served s.plugins) s.plugins
    && no_cycles s.plugins
