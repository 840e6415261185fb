-- What demand 3 speaks of: the engine's memory after operations, with its history, and the rules' run that it is.
use Rattle.std.specs.Prelude.{ℕ, List, [], ◌∷◌}
use Rattle.rules.specs.Steps.{Op, Event, event, Run, run}
use Rattle.memory.specs.View.{view}
use Rattle.demands.specs.Leaves.{leaves}

-- The engine's memory after some operations, with all that was asked and answered, the latest first.
pub record Night : Type 0 where
  pub words : List ℕ
  pub events : List Event

abbrev pub onward : Night → Op → Night
onward s o = record { words = leaves s.words o; events = event (view s.words) o ∷ s.events }

abbrev pub onward_with : Night → List Op → Night
onward_with s [] = s
onward_with s (o ∷ os) = onward_with (onward s o) os

abbrev pub night : List ℕ → List Op → Night
night m ops = onward_with (record { words = m; events = [] }) ops

-- The engine's night is the rules' run, from any sound words.
abbrev pub seen : Night → Run
seen s = record { registry = view s.words; events = s.events }
