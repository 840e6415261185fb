-- What the demands speak of: the memories that an opening or a load, and operations, made.
use Rattle.std.specs.Prelude.{ℕ, List}
use Rattle.rules.specs.Steps.{Op}
use Rattle.demands.specs.Leaves.{leaves}
use Rattle.demands.specs.Starts.{Begun}

-- A made memory: a beginning, then operations with any arguments.
pub data Made : List ℕ → Type 0 where
  begins : (m : List ℕ) → Begun m → Made m
  goes_on : (m : List ℕ) → Made m → (o : Op) → Made (leaves m o)
