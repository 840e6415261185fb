-- What holds of the words of every built registry: ids stand once, counts are within their limits, and the plugins' rows
-- stand apart from each other below the end of the rows in use.
use Rattle.std.specs.Prelude.{ℕ, zero, suc, ◌+◌, ◌*◌, ◌≤◌, ◌≡◌, refl, true, List, length}
use Rattle.std.proofs.Common.{arith, ◌∙◌}
use Rattle.rules.specs.Holds.{rows_in_use}
use Rattle.rules.specs.Outcomes.{Outcome, after}
use Rattle.rules.specs.Limits.{max_rows, max_dependencies, max_provision_keys, max_realm_rows}
use Rattle.memory.specs.Layout.{word, taken, start_at, memory_words, place_words, places, dependencies_word, provisions_word, realms_word}
use Rattle.memory.specs.View.{view}
use Rattle.memory_places.specs.Rows.{rows_at, rows_from}
use Rattle.memory_places.proofs.Rows.{rows_view}
use Rattle.memory_places.specs.Taken.{taken_below}
use Rattle.memory.specs.Stores.{Alone}
pub use Rattle.memory_rows.specs.Moves.{start_word}
use Rattle.memory_rows.specs.Tiles.{sum, share, Tiled}

-- the rows in use, over the taken places
abbrev pub used : List ℕ → ℕ
used m = sum places (share (taken m) (rows_at m)) 0

pub record Dense (m : List ℕ) : Type 0 where
  pub size : length m ≡ memory_words
  pub alone : Alone m
  pub few_dependencies : (i : ℕ) → taken m i ≡ true → word m (i * place_words + dependencies_word) ≤ max_dependencies
  pub few_provisions : (i : ℕ) → taken m i ≡ true → word m (i * place_words + provisions_word) ≤ max_provision_keys
  pub few_realms : (i : ℕ) → taken m i ≡ true → word m (i * place_words + realms_word) ≤ max_realm_rows
  pub tiled : Tiled (taken m) (start_word m) (rows_at m) (used m)
  pub room : used m ≤ max_rows

-- the rows in use are the rule's
used_from : (m : List ℕ) (n i : ℕ) → rows_from n m i ≡ sum n (share (taken m) (rows_at m)) i
unfolding rows_from sum
used_from m zero i = refl
used_from m (suc n) i = rw (used_from m n (i + 1))

pub used_is : (m : List ℕ) → length m ≡ memory_words → rows_in_use (view m) ≡ used m
used_is m l = rows_view m l ∙ used_from m places 0

-- a block is where its words say
pub start_is : (m : List ℕ) → Dense m → (i : ℕ) → taken m i ≡ true → start_at m i ≡ start_word m i
start_is m d i t = omega (arith, d.tiled.below i (taken_below m i t) t, d.room)

-- The words afterwards say what the rule leaves, and are dense.
pub record Refines (m m' : List ℕ) (o : Outcome) : Type 0 where
  pub registry : view m' ≡ after (view m) o
  pub dense : Dense m'
