-- A block in numbers: what those of a read block are, and what any say of a root.
use Rattle.std.specs.Prelude.{ℕ, zero, suc, ◌<◌, ◌≡◌, false, eqb, Some}
use Rattle.std.proofs.Common.{arith, ne_eqb}
use Rattle.rules.specs.Basics.{is_some, or_else, yes_no}
use Rattle.rules.specs.Queries.{phase_number}
use Rattle.rules_types.specs.declared.Root.{Root}
use Rattle.rules_types.specs.declared.Root.TheVariants.{Unissued, Queued, Spent}
use Rattle.memory.specs.Writes.{root_tag, root_revision}
use Rattle.text_read_block.specs.declared.Block.{Block}
use Rattle.registry_block.specs.declared.Numbers.{Numbers}

abbrev pub numbers_of : Block → Numbers
numbers_of b = record {
  id = b.id;
  tag = yes_no (is_some b.parent);
  parent = or_else b.parent 0;
  phase = phase_number b.phase;
  retired = yes_no b.retired;
  generation = b.generation;
  revision = b.revision;
  payload = b.payload;
  root = root_tag b.root;
  queued = root_revision b.root;
  realms = b.realms;
  dependencies = b.dependencies;
  provisions = b.provisions;
  valued = b.valued;
  mask = b.mask;
  next = Some b.next;
}

-- A root by its number and the queued revision. Another number than 0, 1 and 2 is as a Queued root that no revision is below.
abbrev pub root_said : ℕ → ℕ → Root
root_said zero v = Unissued
root_said (suc zero) v = Queued v 0
root_said (suc (suc zero)) v = Spent
root_said (suc (suc (suc n))) v = Queued 0 0

pub above_two : (n k : ℕ) → k < 3 → eqb (suc (suc (suc n))) k ≡ false
above_two n k h = ne_eqb (suc (suc (suc n))) k (omega arith)
