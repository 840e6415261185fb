-- An index of the places by the keys that they offer, and a lookup by it.
use Rattle.std.specs.Prelude.{ℕ, zero, suc, ◌+◌, ◌*◌, ◌/◌, ◌%◌, ◌^◌, ◌&&◌, List, [], ◌∷◌, set, replicate, Option, Some, None}
use Rattle.std.specs.Int.Bits.{bit_or, bit_xor}
use Rattle.rules.specs.Basics.{pick}
use Rattle.rules.specs.Holds.{provides}
use Rattle.rules.specs.Ports.{pairs}
use Rattle.rules_types.specs.declared.Port.{Port}
use Rattle.memory.specs.Layout.{word, taken, places}
use Rattle.memory.specs.View.{plugin_at}
use Rattle.memory_providers.specs.Providers.{offered_part}
use Rattle.memory_providers.specs.Words.{is_among}

abbrev pub remainders : ℕ
remainders = 64

-- the word of a key: by its remainder and that of its quotient
abbrev pub word_for : ℕ → ℕ
word_for k = bit_xor k (k / remainders) % remainders

-- an index in which a place has its bit in the word of each port's key beside
unfoldable pub noted : List ℕ → ℕ → List Port → List ℕ
noted t i [] = t
noted t i (q ∷ qs) = set (noted t i qs) (word_for q.key) (bit_or (word (noted t i qs) (word_for q.key)) ((1 * 2 ^ i) % 2 ^ 32))

-- n places from i on
unfoldable pub index_from : ℕ → List ℕ → List ℕ → ℕ → List ℕ
index_from zero m t i = t
index_from (suc n) m t i = index_from n m (pick (taken m i) (noted t i (pairs (offered_part m i))) t) (i + 1)

unfoldable pub index_of : List ℕ → List ℕ
index_of m = index_from places m (replicate remainders 0) 0

-- the first of n places from i on that is among those of a word and provides the port
unfoldable pub first_among : ℕ → List ℕ → ℕ → Port → ℕ → Option ℕ
first_among zero m w q i = None
first_among (suc n) m w q i = pick (is_among w i && provides (plugin_at m i) q) (Some i) (first_among n m w q (i + 1))

abbrev pub provider_by : List ℕ → List ℕ → Port → Option ℕ
provider_by m t q = first_among places m (word t (word_for q.key)) q 0
