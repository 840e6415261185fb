-- Upstream's clauses on R's dependency list.
use Rattle.std.specs.Prelude.{ℕ, ◌≡◌, false, List}
use Rattle.std.proofs.Common.{◌∙◌}
use Rattle.std.proofs.Math.Bool.{or-false}
use Rattle.rules_types.specs.declared.Port.{Port}
use Rattle.rules.specs.Holds.{Realms, same_port, is_in}
use Rattle.rules.specs.Dependencies.{dependency_list}
use Rattle.rules_upstream.specs.Dependencies.{registered_dependencies, dependencies_in}

module _ (z : Realms) (provisions : List Port) (anchor : Port) (keys : List ℕ) (parents : List Port) where
  abbrev finished : List Port
  finished = dependency_list z provisions anchor keys parents

  -- R's set is kept but for the anchor.
  pub dependencies_registered : (p : Port) → same_port p anchor ≡ false → is_in p finished ≡ registered_dependencies z provisions anchor keys parents p
  dependencies_registered p n = dependencies_in z provisions anchor keys parents p ∙ rw (n, or-false)
