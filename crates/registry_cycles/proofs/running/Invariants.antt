-- `running` meets its contract: the word's bits are those of the places from i on.
use Rattle.memory_providers.specs.Words.{Made}
use Rattle.registry_cycles.specs.Runs.{runs_at}
use Rattle.registry_cycles.proofs.running.Given as goal

abbrev pub invariant-loop-i : goal.invariant-loop-i
invariant-loop-i l = Made (runs_at l.m) l.word l.i
