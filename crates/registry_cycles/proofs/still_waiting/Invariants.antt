-- `still_waiting` meets its contract: the word's bits are those of the places from i on.
use Rattle.memory_providers.specs.Words.{Made}
use Rattle.registry_cycles.specs.Left.{waits_at}
use Rattle.registry_cycles.proofs.still_waiting.Given as goal

abbrev pub invariant-loop-i : goal.invariant-loop-i
invariant-loop-i l = Made (waits_at l.rows l.left) l.word l.i
