-- What the early run of checks comes to.
use Rattle.std.specs.Prelude.{ℕ, List, Option, Some, None, Result, Ok, Err}
use Rattle.rules.specs.Holds.{port}
use Rattle.rules.specs.Refusals.{Refusal}
use Rattle.rules.specs.Registration.{Definition}
use Rattle.memory.specs.Writes.{find_at}

-- the verdict under a parent at a place
abbrev pub under : Option ℕ → Result Unit Refusal → Result (Option ℕ) Refusal
under at (Ok x) = Ok at
under at (Err why) = Err why

-- the parent's place; nowhere without a parent
abbrev pub place_above : List ℕ → Option ℕ → Option ℕ
place_above m (Some id) = find_at m id
place_above m None = None

-- The definition as the early run is lent it: its checks look at neither anchor nor payload.
abbrev pub asked : Option ℕ → List ℕ → List ℕ → List ℕ → Definition
asked parent realms dependencies provisions = record {
  parent = parent;
  anchor = port 0 0;
  realms = realms;
  dependencies = dependencies;
  provisions = provisions;
  payload = 0;
}
