-- What the operations make of a life.
use Rattle.std.specs.Prelude.{ℕ, Bool, true}
use Rattle.rules_types.specs.Generations.{next_generation}
use Rattle.rules_types.specs.declared.Generation.{Generation}
use Rattle.rules_types.specs.declared.Phase.{Phase}
use Rattle.rules_types.specs.declared.Root.{Root}
use Rattle.rules_types.specs.declared.Root.TheVariants.{Unissued}
use Rattle.memory.specs.declared.Life.{Life}

-- revision and payload stay
abbrev pub changed_life : Life → Phase → Bool → Generation → Root → Life
changed_life l phase retired generation root = record {
  revision = l.revision;
  payload = l.payload;
  phase = phase;
  retired = retired;
  generation = generation;
  root = root;
}

abbrev pub moved_life : Life → Phase → Life
moved_life l p = changed_life l p l.retired l.generation l.root

-- generation + 1, root Unissued
abbrev pub begun_life : Life → Phase → Life
begun_life l p = changed_life l p l.retired (next_generation l.generation) Unissued

-- root Unissued
abbrev pub finished_life : Life → Phase → Life
finished_life l p = changed_life l p l.retired l.generation Unissued

abbrev pub rooted_life : Life → Root → Life
rooted_life l root = changed_life l l.phase l.retired l.generation root

abbrev pub marked_life : Life → Life
marked_life l = changed_life l l.phase true l.generation l.root

-- what a replacement changes
abbrev pub renewed_life : Life → ℕ → ℕ → Life
renewed_life l revision payload = record {
  revision = revision;
  payload = payload;
  phase = l.phase;
  retired = l.retired;
  generation = l.generation;
  root = l.root;
}
