-- What callers read off the answer: the dependency list, and whether it fits.
use Rattle.std.specs.Prelude.{ℕ, ◌+◌, ◌≤◌, ◌<◌, ◌≡◌, refl, List, [], length, take}
use Rattle.std.proofs.Common.{arith, take_all, le-leb}
use Rattle.std.proofs.lemmas.Bool.{lt-leb}
use Rattle.rules_types.specs.declared.Port.{Port}
use Rattle.rules.specs.Holds.{Realms}
use Rattle.rules.specs.Dependencies.{dependency_list}
use Rattle.rules.specs.Limits.{max_dependency_keys, max_dependencies}
use Rattle.ports_resolved.specs.Filled.{filled, Lists}
use Rattle.ports_resolved.specs.Keys.{list_room}
use Rattle.ports_inherited.specs.declared.Dependencies.{Dependencies}
use Rattle.ports_inherited.specs.Blocks.{fitted}

-- at most 16 keys are all declared
pub dependency_law : (z : Realms) (provisions : List Port) (anchor : Port) (keys : List ℕ) (parents : List Port) → length keys ≤ max_dependency_keys
    → dependency_list z provisions anchor (take max_dependency_keys keys) parents ≡ dependency_list z provisions anchor keys parents
dependency_law z provisions anchor keys parents h = rw (take_all max_dependency_keys keys h)

-- what is answered: a list of at most 48 ports, or that it is longer
pub fitted_lists : (l : List Port) {n : ℕ} {array : List ℕ} → Lists list_room n array l → n ≤ max_dependencies → record { count = n; ports = array } ≡ fitted l
fitted_lists l r h = rw (le-leb (length l) max_dependencies (omega (arith, r.counted))) (λ k. record { count = r.counted k; ports = r.numbers k })

pub fitted_longer : (l : List Port) {r : Dependencies} → max_dependencies < length l → r.count ≡ max_dependencies + 1 → r.ports ≡ filled list_room []
    → r ≡ fitted l
fitted_longer l h e f = rw (lt-leb (length l) max_dependencies h) (λ k. record { count = e k; ports = f k })

-- a list of at most 48 ports is there
pub fitted_law : (l : List Port) → length l ≤ max_dependencies → Lists list_room (fitted l).count (fitted l).ports l
fitted_law l h = rw (le-leb (length l) max_dependencies h) record { counted = refl; numbers = refl }

-- a count over 48 says that the list is longer, and nothing else does
pub fitted_long : (l : List Port) → max_dependencies < length l → (fitted l).count ≡ max_dependencies + 1
fitted_long l h = rw (lt-leb (length l) max_dependencies h)
