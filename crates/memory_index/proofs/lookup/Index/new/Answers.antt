-- The index of all places finds what a search of all places finds.
use Rattle.memory_index.specs.Indexed.{index_finds}
use Rattle.memory_index.proofs.lookup.Index.new.Goals as goal

pub invariant_of-result : goal.invariant_of-result
invariant_of-result c = record { finds = index_finds c.args.memory.now _ c.told-memory c.index.ensures }
