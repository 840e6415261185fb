-- `in_use` meets its contract: what is left to look at has a user where all places have one.
use Rattle.std.proofs.Common.{◌-◌, ◌%◌, ◌≡◌}
use Rattle.rules.specs.Phases.{in_use}
use Rattle.rules.specs.Ports.{pairs}
use Rattle.memory.specs.View.{plugin_at, view}
use Rattle.memory.specs.Layout.{places}
use Rattle.memory_places.specs.Any.{any_from}
use Rattle.memory_providers.specs.Providers.{offered_part, no_bits, key_bits}
use Rattle.registry_needs.specs.Users.{user_at}
use Rattle.registry_needs.proofs.in_use.Given as goal

abbrev pub invariant-loop-i : goal.invariant-loop-i
invariant-loop-i l =
    (l.ports ≡ offered_part l.m (l.place % places)) × (l.bits ≡ key_bits no_bits (pairs l.ports))
    × (in_use (view l.m) (plugin_at l.m (l.place % places)) ≡ any_from (user_at l.m (l.place % places)) (places - l.i) l.m l.i)
