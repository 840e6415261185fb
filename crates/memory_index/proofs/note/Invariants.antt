-- `note` meets its contract: from the last row to the first.
use Rattle.memory_index.proofs.Laws.{NotedFrom}
use Rattle.memory_index.proofs.note.Given as goal

abbrev pub invariant-loop-row : goal.invariant-loop-row
invariant-loop-row l = NotedFrom l.initial.index l.place l.ports l.row l.index
