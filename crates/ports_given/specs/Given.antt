-- Dependency lists that document 01's rule gives, as they are looked for: from the keys of the ports in front.
use Rattle.std.specs.Prelude.{ℕ, ◌+◌, ◌≤◌, ◌≡◌, ◌⊎◌, Bool, true, false, not, ◌&&◌, List, leb, length, take}
use Rattle.rules.specs.Basics.{all, twice}
use Rattle.rules_types.specs.declared.Port.{Port}
use Rattle.rules.specs.Holds.{Realms}
use Rattle.rules.specs.Conditions.{resolved_in, keys_of, given_within}
use Rattle.rules.specs.Limits.{max_dependency_keys, max_dependencies}
use Rattle.ports_resolved.specs.Filled.{filled}
use Rattle.ports_given.specs.declared.FrontKeys.{FrontKeys}

-- a list of at most 48 ports that the rule gives from some at most 16 different declared keys
abbrev pub given_list : Realms → List Port → Port → List Port → List Port → Bool
given_list z provisions anchor parents list = leb (length list) max_dependencies && given_within max_dependency_keys z provisions anchor parents list

-- ports that declared keys can resolve to: each has the realm its key resolves to, and the keys are different
abbrev pub declarable : Realms → List Port → Bool
declarable z ports = all (resolved_in z) ports && not (twice (keys_of ports))

-- the keys of so many ports in front of a list, which are declarable
pub record Front (z : Realms) (list : List Port) (count : ℕ) (keys : List ℕ) : Type 0 where
  pub few : count ≤ max_dependency_keys
  pub inside : count ≤ length list
  pub filled : keys ≡ filled max_dependency_keys (keys_of (take count list))
  pub declared : declarable z (take count list) ≡ true

-- and with one port more they are not, or there is no port or no room for a key more
pub record Most (z : Realms) (list : List Port) (r : FrontKeys) : Type 0 where
  pub front : Front z list r.count r.keys
  pub end : (r.count ≡ max_dependency_keys) ⊎ (r.count ≡ length list) ⊎ (declarable z (take (r.count + 1) list) ≡ false)
