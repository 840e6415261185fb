-- The keys that were seen: a bit for each key's remainder by a prime.
use Rattle.std.specs.Prelude.{ℕ, ◌/◌, ◌%◌, Bool, List, set}
use Rattle.memory.specs.Layout.{word}
use Rattle.ports_bits.specs.Bits.{with_bit, has_bit}

abbrev pub key_words : ℕ
key_words = 64

abbrev pub remainders : ℕ
remainders = 4093

abbrev pub seen : List ℕ → ℕ → Bool
seen keys k = has_bit (word keys (k % remainders / 64)) (k % remainders)

abbrev pub see : List ℕ → ℕ → List ℕ
see keys k = set keys (k % remainders / 64) (with_bit (word keys (k % remainders / 64)) (k % remainders))
