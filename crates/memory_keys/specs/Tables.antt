-- A lookup by a table of keys: what is found, and what the table keeps.
use Rattle.std.specs.Prelude.{ℕ, zero, suc, ◌+◌, Bool, ◌&&◌, List, set, Option, Some, None}
use Rattle.rules.specs.Basics.{pick}
use Rattle.rules.specs.Holds.{is_in, provides}
use Rattle.rules.specs.Ports.{pairs}
use Rattle.rules_types.specs.declared.Port.{Port}
use Rattle.memory.specs.Layout.{word, taken, prov_part, places}
use Rattle.memory.specs.View.{anchor_at, plugin_at}
use Rattle.ports_bits.specs.Bits.{with_bit, has_bit}
use Rattle.ports_bits.specs.Keys.{key_word}

-- a word with the bits of the ports' keys, and nothing if the port is one of them
abbrev pub bits_without : ℕ → List Port → Port → Option ℕ
bits_without w qs q = pick (is_in q qs) None (Some (key_word w qs))

-- the keys that a place's plugin offers: its anchor's and its provisions'
unfoldable pub place_keys : List ℕ → ℕ → ℕ
place_keys m i = key_word (with_bit 0 (anchor_at m i).key) (pairs (prov_part m i))

abbrev pub keys_without : List ℕ → ℕ → Port → Option ℕ
keys_without m i q = pick (provides (plugin_at m i) q) None (Some (place_keys m i))

-- whether a place's plugin provides the port, by the table's word of the place: the bits of the keys that it may offer
abbrev pub offers_by : List ℕ → ℕ → ℕ → Port → Bool
offers_by m w i q = has_bit w q.key && (taken m i && provides (plugin_at m i) q)

-- that word afterwards: of a place that was looked at in vain the keys that it offers
abbrev pub kept_by : List ℕ → ℕ → ℕ → Port → ℕ
kept_by m w i q = pick (has_bit w q.key) (pick (taken m i) (pick (provides (plugin_at m i) q) w (place_keys m i)) 0) w

-- n places from i on: the first that provides the port, and the table afterwards
unfoldable pub found_from : ℕ → List ℕ → List ℕ → Port → ℕ → Option ℕ
found_from zero m t q i = None
found_from (suc n) m t q i = pick (offers_by m (word t i) i q) (Some i) (found_from n m (set t i (kept_by m (word t i) i q)) q (i + 1))

unfoldable pub table_from : ℕ → List ℕ → List ℕ → Port → ℕ → List ℕ
table_from zero m t q i = t
table_from (suc n) m t q i =
    let u = set t i (kept_by m (word t i) i q) in
    pick (offers_by m (word t i) i q) u (table_from n m u q (i + 1))

abbrev pub provider_by : List ℕ → List ℕ → Port → Option ℕ
provider_by m t q = found_from places m t q 0

abbrev pub table_by : List ℕ → List ℕ → Port → List ℕ
table_by m t q = table_from places m t q 0
