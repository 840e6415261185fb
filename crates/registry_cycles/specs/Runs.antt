-- The places whose plugin runs, and what is asked of all of them.
use Rattle.std.specs.Prelude.{ℕ, zero, suc, ◌+◌, ◌≡◌, Bool, true, ◌&&◌, List}
use Rattle.rules.specs.Holds.{running}
use Rattle.memory.specs.Layout.{taken, places}
use Rattle.memory.specs.View.{plugin_at}
use Rattle.registry_cycles.specs.Rows.{served_in, RowsFor}

abbrev pub runs_at : List ℕ → ℕ → Bool
runs_at m i = taken m i && running (plugin_at m i)

-- n places from i on, all of them
unfoldable pub all_of : (ℕ → Bool) → ℕ → ℕ → Bool
all_of f zero i = true
all_of f (suc n) i = f i && all_of f n (i + 1)

-- whether all places of a word are served, and then their rows
abbrev pub RowsFilled : List ℕ → ℕ → Bool → List ℕ → Type 0
RowsFilled m among r rows = (r ≡ all_of (served_in m among) places 0) × (r ≡ true → RowsFor m among rows places)
