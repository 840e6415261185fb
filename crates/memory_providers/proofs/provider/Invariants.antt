-- `provider` meets its contract: the search from place i on finds what the whole search does, as no place before i offers the port.
use Rattle.std.proofs.Common.{◌≡◌, ◌-◌}
use Rattle.rules.specs.Holds.{port, Plugin, provides}
use Rattle.memory.specs.Lookups.{search_from}
use Rattle.memory.specs.Layout.{places}
use Rattle.memory_providers.specs.Providers.{provider_at}
use Rattle.memory_providers.proofs.provider.Given as goal

abbrev pub invariant-loop-i : goal.invariant-loop-i
invariant-loop-i l =
    provider_at l.m l.port ≡ search_from (λ (p : Plugin). provides p l.port) (places - l.i) l.m l.i
