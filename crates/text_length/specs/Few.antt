-- On any words a plugin has at most 16 realm rows and 48 dependencies.
use Rattle.std.specs.Prelude.{ℕ, ◌≤◌, List, length, drop}
use Rattle.std.proofs.Common.{arith, length-take, length-drop}
use Rattle.rules.specs.Ports.{pairs}
use Rattle.memory.specs.Layout.{dep_part, realm_part}
use Rattle.ports.specs.Places.{length_pairs}

module _ (m : List ℕ) (i : ℕ) where
  pub few_realms : length (pairs (drop 2 (realm_part m i))) ≤ 16
  few_realms = rw (length_pairs (drop 2 (realm_part m i))) (simp (length-drop, length-take) (omega arith))

  pub few_deps : length (pairs (dep_part m i)) ≤ 48
  few_deps = rw (length_pairs (dep_part m i)) (simp (length-take, length-drop) (omega arith))
