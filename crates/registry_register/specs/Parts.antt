-- What a registration takes of its parent, and the ports that its own lists give.
use Rattle.std.specs.Prelude.{ℕ, ◌%◌, List, [], length, take, Option, Some, None}
use Rattle.rules.specs.Basics.{or_else, is_some, yes_no}
use Rattle.rules.specs.Limits.{max_dependency_keys}
use Rattle.rules_types.specs.declared.Port.{Port}
use Rattle.rules.specs.Ports.{pairs}
use Rattle.rules.specs.Dependencies.{dependency_list}
use Rattle.ports_realms.specs.Halving.{reached_in}
use Rattle.ports_resolved.specs.Keys.{claims_of}
use Rattle.ports_resolved.specs.declared.Claimed.{Claimed}
use Rattle.ports_inherited.specs.Blocks.{fitted}
use Rattle.ports_inherited.specs.declared.Dependencies.{Dependencies}
use Rattle.memory.specs.Layout.{part, dep_part, places}

-- the dependency rows of the plugin at a place
abbrev pub dependencies_at : List ℕ → Option ℕ → List ℕ
dependencies_at m (Some i) = dep_part m (i % places)
dependencies_at m None = []

-- a parent or none, in two words
abbrev pub tag_of : Option ℕ → ℕ
tag_of parent = yes_no (is_some parent)

abbrev pub word_of : Option ℕ → ℕ
word_of parent = or_else parent 0

-- the anchor and the resolved provisions
abbrev pub claims_in : List ℕ → Port → List ℕ → Claimed
claims_in realms anchor provisions = claims_of (reached_in realms).other (reached_in realms).rows anchor provisions

-- the dependency list, by the provisions behind the anchor among the claims
abbrev pub list_in : List ℕ → Option ℕ → Port → (realms keys claims : List ℕ) → Dependencies
list_in m above anchor realms keys claims =
    fitted (dependency_list (reached_in realms) (pairs (part claims 2 (length claims))) anchor (take max_dependency_keys keys) (pairs (dependencies_at m above)))
