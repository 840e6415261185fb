-- For a list of ports the places of its providers, where all of these are Active; else none.
use Rattle.std.specs.Prelude.{ℕ, ◌<◌, ◌≡◌, Bool, true, false, List, eqb, Option, Some, None}
use Rattle.rules.specs.Basics.{pick, any, all, ◌⊃◌}
use Rattle.rules.specs.Phases.{available}
use Rattle.rules_types.specs.declared.Port.{Port}
use Rattle.memory.specs.Layout.{word, places}
use Rattle.memory.specs.View.{plugin_at, view}
use Rattle.memory_providers.specs.Providers.{provider_at}
use Rattle.memory_providers.specs.Words.{is_among, word_of}

abbrev pub is_at : Option ℕ → ℕ → Bool
is_at (Some i) j = eqb j i
is_at None j = false

-- whether one of the ports' providers stands at a place
abbrev pub provides_one : List ℕ → List Port → ℕ → Bool
provides_one m qs j = any (λ q. is_at (provider_at m q) j) qs

abbrev pub row_of : List ℕ → List Port → Option ℕ
row_of m qs = pick (all (available (view m)) qs) (Some (word_of (provides_one m qs) places 0)) None

-- of a place that is not among those of a word nothing is asked
abbrev pub row_at : List ℕ → ℕ → ℕ → Option ℕ
row_at m among i = pick (is_among among i) (row_of m (plugin_at m i).dependencies) (Some 0)

abbrev pub served_in : List ℕ → ℕ → ℕ → Bool
served_in m among i = is_among among i ⊃ all (available (view m)) (plugin_at m i).dependencies

-- the rows of the word's places below n
abbrev pub RowsFor : List ℕ → ℕ → List ℕ → ℕ → Type 0
RowsFor m among rows n = (i : ℕ) → i < n → is_among among i ≡ true → word rows i ≡ word_of (provides_one m (plugin_at m i).dependencies) places 0
