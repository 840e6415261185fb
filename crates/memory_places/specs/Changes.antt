-- The lowest free place, the occupancy word with a place taken or freed, and what an answer says.
use Rattle.std.specs.Prelude.{ℕ, zero, suc, ◌+◌, ◌-◌, ◌^◌, ◌||◌, List, leb, set, Option, Some, None}
use Rattle.rules.specs.Basics.{pick}
use Rattle.memory.specs.Layout.{occupancy, taken, places, occupancy_word}

-- the first free one of n places from i on
unfoldable pub free_from : ℕ → List ℕ → ℕ → Option ℕ
free_from zero m i = None
free_from (suc n) m i = pick (taken m i) (free_from n m (i + 1)) (Some i)

unfoldable pub free_at : List ℕ → Option ℕ
free_at m = free_from places m 0

-- a place that is taken already, or past the 32, changes nothing
unfoldable pub occupied_at : List ℕ → ℕ → List ℕ
occupied_at m p = pick (taken m p || leb places p) m (set m occupancy_word (occupancy m + 2 ^ p))

-- a place that is free changes nothing
unfoldable pub vacated_at : List ℕ → ℕ → List ℕ
vacated_at m p = pick (taken m p) (set m occupancy_word (occupancy m - 2 ^ p)) m
