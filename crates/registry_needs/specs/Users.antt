-- Who uses a plugin's ports.
use Rattle.std.specs.Prelude.{ℕ, Bool, ◌&&◌, List}
use Rattle.rules.specs.Basics.{any}
use Rattle.rules.specs.Holds.{Plugin, provides, running}
use Rattle.rules_types.specs.declared.Port.{Port}
use Rattle.memory.specs.View.{plugin_at}
use Rattle.memory_providers.specs.declared.KeyBits.{KeyBits}
use Rattle.memory_providers.specs.Providers.{wanted}

-- the plugin of a place provides one of the ports
abbrev pub depends : List ℕ → ℕ → List Port → Bool
depends m i ports = any (provides (plugin_at m i)) ports

-- a plugin runs and depends on that of a place
abbrev pub user_at : List ℕ → ℕ → Plugin → Bool
user_at m i q = running q && depends m i q.dependencies

-- a plugin runs and depends on one of the ports, by the bits of their keys
abbrev pub uses : KeyBits → List Port → Plugin → Bool
uses b ports q = running q && any (wanted b ports) q.dependencies
