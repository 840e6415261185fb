-- An order filled place by place, by the rows alone: at each the first id that is not named yet and waits for none but named ones.
use Rattle.std.specs.Prelude.{ℕ, zero, suc, ◌+◌, Bool, true, false, not, ◌&&◌, List, [], ◌∷◌, ◌++◌, eqb, length, take, Option, Some, None}
use Rattle.std.specs.Int.Bits.{bit_or}
use Rattle.rules.specs.Basics.{pick}
use Rattle.memory.specs.Layout.{word}
use Rattle.ports_bits.specs.Bits.{with_bit, has_bit}

-- all bits of a row are among the named ones
abbrev pub covered : (row named : ℕ) → Bool
covered row named = eqb (bit_or row named) named

abbrev pub is_next : (row named place : ℕ) → Bool
is_next row named place = not (has_bit named place) && covered row named

abbrev pub next_by : List ℕ → ℕ → ℕ → Bool
next_by rows named place = is_next (word rows place) named place

-- the first of n places from one on that passes
unfoldable pub first_from : (ℕ → Bool) → ℕ → (place : ℕ) → Option ℕ
first_from f zero place = None
first_from f (suc n) place = pick (f place) (Some place) (first_from f n (place + 1))

-- the first place of so many whose id can come next
abbrev pub first_next : (rows : List ℕ) (count named : ℕ) → Option ℕ
first_next rows count named = first_from (next_by rows named) count 0

abbrev pub filling : Option ℕ → (ℕ → Option (List ℕ)) → Option (List ℕ)
filling None f = None
filling (Some place) f = f place

-- so many more places
unfoldable pub fill_behind : List ℕ → List ℕ → ℕ → (named : ℕ) → (before : List ℕ) → Option (List ℕ)
fill_behind rows set zero named before = Some before
fill_behind rows set (suc n) named before =
    filling (first_next rows (length set) named) (λ place. fill_behind rows set n (with_bit named place) (before ++ word set place ∷ []))

-- the first n ids, if there is an order
abbrev pub filled : Bool → ℕ → List ℕ → Option (List ℕ)
filled true n order = Some (take n order)
filled false n order = None
