-- `put_front` meets its contract: to store the words from k on over what is stored is to store all.
use Rattle.std.proofs.Common.{◌≡◌, length, drop}
use Rattle.memory.specs.Writes.{puts}
use Rattle.memory_entry.proofs.put_front.Given as goal

abbrev pub invariant-loop-k : goal.invariant-loop-k
invariant-loop-k l = (length l.out ≡ length l.initial.out) × (puts l.initial.out 0 0 l.words ≡ puts l.out 0 l.k (drop l.k l.words))
