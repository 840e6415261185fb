-- The dependency list of a new plugin in an array of fixed size.
use Rattle.std.specs.Prelude.{◌+◌, List, [], leb, length}
use Rattle.rules.specs.Basics.{pick}
use Rattle.rules_types.specs.declared.Port.{Port}
use Rattle.rules.specs.Ports.{flat}
use Rattle.rules.specs.Limits.{max_dependencies}
use Rattle.ports_resolved.specs.Filled.{filled}
use Rattle.ports_resolved.specs.Keys.{list_room}
use Rattle.ports_inherited.specs.declared.Dependencies.{Dependencies}

-- a list of at most 48 ports with its count; of a longer one only that it is longer
abbrev pub fitted : List Port → Dependencies
fitted l = pick (leb (length l) max_dependencies)
    (record { count = length l; ports = filled list_room (flat l) })
    (record { count = max_dependencies + 1; ports = filled list_room [] })
