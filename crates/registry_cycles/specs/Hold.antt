-- Document 02 [4]: what is asked of all plugins at the end: their ports differ, and those that run are served, without cycles.
use Rattle.std.specs.Prelude.{Bool, ◌&&◌}
use Rattle.rules.specs.Basics.{all, ◌⊃◌}
use Rattle.rules.specs.Conditions.{ports_differ, no_cycles}
use Rattle.rules.specs.Holds.{Plugin, Registry, plugins, running}
use Rattle.rules.specs.Phases.{available}

unfoldable pub all_hold : Registry → Bool
all_hold r =
    ports_differ (plugins r)
    && all (λ (p : Plugin). running p ⊃ all (available r) p.dependencies) (plugins r)
    && no_cycles (plugins r)
