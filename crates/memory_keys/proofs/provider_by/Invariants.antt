-- `provider_by` meets its contract: what is left to look at gives what the whole gives.
use Rattle.rules.specs.Holds.{port}
use Rattle.memory_keys.specs.Tables.{provider_by, table_by}
use Rattle.memory_keys.proofs.Laws.{Left}
use Rattle.memory_keys.proofs.provider_by.Given as goal

abbrev pub invariant-loop-i : goal.invariant-loop-i
invariant-loop-i l =
    Left l.m l.table l.port l.i (provider_by l.m l.initial.table l.port) (table_by l.m l.initial.table l.port)
