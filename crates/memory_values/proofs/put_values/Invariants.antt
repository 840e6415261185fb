-- `put_values` meets its contract: to store the values from k on over what is stored is to store all of the first 15.
use Rattle.std.proofs.Common.{◌+◌, ◌-◌, ◌≤◌, ◌≡◌, length, take, ℕ, List, drop}
use Rattle.rules.specs.Limits.{max_provision_keys}
use Rattle.memory.specs.Layout.{values_word}
use Rattle.memory.specs.Writes.{puts}
use Rattle.memory_values.proofs.put_values.Given as goal

-- of the first n values, those from k on
abbrev pub from : ℕ → ℕ → List ℕ → List ℕ
from n k values = drop k (take n values)

abbrev pub invariant-loop-k : goal.invariant-loop-k
invariant-loop-k l =
    puts l.initial.m (l.b + values_word) 0 (take max_provision_keys l.values) ≡ puts l.m (l.b + values_word) l.k (from max_provision_keys l.k l.values)
