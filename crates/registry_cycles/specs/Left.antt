-- Of the places of a word, those whose plugin needs that of another one.
use Rattle.std.specs.Prelude.{ℕ, zero, suc, ◌<◌, ◌≡◌, Bool, true, not, ◌&&◌, List, eqb}
use Rattle.std.specs.Int.Bits.{bit_and}
use Rattle.rules.specs.Conditions.{needs}
use Rattle.memory.specs.Layout.{word, places}
use Rattle.memory.specs.View.{plugin_at}
use Rattle.memory_providers.specs.Words.{is_among, word_of}

-- the places of a word whose plugin that of place i needs; rows that say so for each place of the word below n
abbrev pub needed_at : List ℕ → ℕ → ℕ → ℕ
needed_at m among i = word_of (λ j. is_among among j && needs (plugin_at m i) (plugin_at m j)) places 0

abbrev pub Needed : List ℕ → ℕ → List ℕ → ℕ → Type 0
Needed m among rows n = (i : ℕ) → i < n → is_among among i ≡ true → word rows i ≡ needed_at m among i

-- a place that is left and needs one that is left
abbrev pub waiting : (row left i : ℕ) → Bool
waiting row left i = is_among left i && not (eqb (bit_and row left) 0)

abbrev pub waits_at : List ℕ → ℕ → ℕ → Bool
waits_at rows left i = waiting (word rows i) left i

-- n rounds, each of which takes away whoever needs none that is left: none is left
unfoldable pub none_waiting : ℕ → List ℕ → ℕ → Bool
none_waiting zero rows left = eqb left 0
none_waiting (suc n) rows left = none_waiting n rows (word_of (waits_at rows left) places 0)
