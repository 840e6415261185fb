-- A start order that passes can be carried out: each plugin in turn is begun, admitted, called, given its values and made ready, and
-- every operation is accepted.
use Rattle.std.specs.Prelude.{ℕ, List, [], ◌∷◌, ◌++◌, Option, Some, None}
use Rattle.rules_types.specs.declared.Port.{Port}
use Rattle.rules.specs.Holds.{Plugin, Registry, lookup}
use Rattle.rules.specs.Steps.{Op}
use Rattle.rules_orders.specs.OneStart.{start_one}

abbrev pub start_found : (d a : ℕ) → (Port → ℕ) → ℕ → Option Plugin → List Op
start_found d a v x None = []
start_found d a v x (Some p) = start_one d a v x p

-- those of an order, one after the other, read off the registry at the start
abbrev pub start_all : Registry → ℕ → (Port → ℕ) → List ℕ → List Op
start_all s a v [] = []
start_all s a v (x ∷ order) = start_found s.domain a v x (lookup s x) ++ start_all s a v order
