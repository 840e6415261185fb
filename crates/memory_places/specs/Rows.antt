-- The rows in use, place by place.
use Prim.Native.Nat.{ℕ, zero, suc, ◌+◌, ◌%◌}
use Rattle.std.specs.Prelude.{List, eqb}
use Rattle.rules.specs.Basics.{pick}
use Rattle.memory.specs.Layout.{taken, deps_at, provs_at}

-- dependencies, provisions and the anchor
abbrev pub rows_at : List ℕ → ℕ → ℕ
rows_at m i = deps_at m i + provs_at m i + 1

-- those of a place that is taken where the lowest bit of a word says so
abbrev pub rows_by : ℕ → List ℕ → ℕ → ℕ
rows_by w m i = pick (eqb (w % 2) 1) (rows_at m i) 0

-- the rows of the taken ones of n places from i on
unfoldable pub rows_from : ℕ → List ℕ → ℕ → ℕ
rows_from zero m i = 0
rows_from (suc n) m i = pick (taken m i) (rows_at m i) 0 + rows_from n m (i + 1)
