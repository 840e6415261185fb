-- `none_waiting` meets its contract: the rounds that are to come over those that are left answer what all rounds do.
use Rattle.std.proofs.Common.{◌-◌, ◌≡◌}
use Rattle.memory.specs.Layout.{places}
use Rattle.registry_cycles.specs.Left.{none_waiting}
use Rattle.registry_cycles.proofs.none_waiting.Given as goal

abbrev pub invariant-loop : goal.invariant-loop
invariant-loop l = none_waiting places l.rows l.among ≡ none_waiting (places - l.counter) l.rows l.left
