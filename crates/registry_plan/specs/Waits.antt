-- For each id of a set a row of bits: which ids of the set it waits for, by their places there.
use Rattle.std.specs.Prelude.{ℕ, suc, List, [], ◌∷◌, eqb, ltb, length, Option, Some, None}
use Rattle.rules.specs.Basics.{pick}
use Rattle.rules.specs.Holds.{Plugin, Registry, lookup, provider, is_active}
use Rattle.rules_types.specs.declared.Port.{Port}
use Rattle.ports_bits.specs.Bits.{with_bit}

-- the place of an id in a list, and the list's length where it is not there
abbrev pub place_in : ℕ → List ℕ → ℕ
place_in x [] = 0
place_in x (y ∷ ids) = pick (eqb y x) 0 (suc (place_in x ids))

-- the place that a row gets the bit of: the provider's where it is of the set, else the id's own
abbrev pub waits_at : List ℕ → (own id : ℕ) → ℕ
waits_at set own id = pick (ltb (place_in id set) (length set)) (place_in id set) own

abbrev pub waits_on : List ℕ → (own row : ℕ) → Option Plugin → ℕ
waits_on set own row None = with_bit row own
waits_on set own row (Some p) = pick (is_active p.phase) row (with_bit row (waits_at set own p.id))

abbrev pub waits_for : Registry → List ℕ → (own row : ℕ) → Port → ℕ
waits_for r set own row q = waits_on set own row (provider r q)

unfoldable pub waits_for_all : Registry → List ℕ → (own row : ℕ) → List Port → ℕ
waits_for_all r set own row [] = row
waits_for_all r set own row (q ∷ qs) = waits_for_all r set own (waits_for r set own row q) qs

abbrev pub row_in : Registry → List ℕ → (own : ℕ) → Option Plugin → ℕ
row_in r set own None = with_bit 0 own
row_in r set own (Some p) = waits_for_all r set own 0 p.dependencies

abbrev pub row_of : Registry → List ℕ → (own id : ℕ) → ℕ
row_of r set own id = row_in r set own (lookup r id)

-- the rows of some ids, whose first stands at a place
unfoldable pub rows_from : Registry → List ℕ → (place : ℕ) → (ids : List ℕ) → List ℕ
rows_from r set place [] = []
rows_from r set place (id ∷ ids) = row_of r set place id ∷ rows_from r set (suc place) ids

abbrev pub rows_of : Registry → List ℕ → List ℕ
rows_of r set = rows_from r set 0 set
