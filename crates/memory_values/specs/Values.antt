-- What is read of a plugin's values, and the words with one set.
use Rattle.std.specs.Prelude.{ℕ, ◌+◌, ◌*◌, ◌^◌, ◌<◌, ◌≡◌, Bool, ◌&&◌, List, [], ◌∷◌, map, eqb, ltb, set, take, Option, Some, None}
use Rattle.std.proofs.Common.{lt-ltb}
use Rattle.rules.specs.Basics.{pick, is_none, is_some, or_else, yes_no}
use Rattle.rules.specs.Holds.{Provision, same_port}
use Rattle.rules_types.specs.declared.Port.{Port}
use Rattle.rules.specs.Limits.{max_provision_keys}
use Rattle.memory.specs.Layout.{word, place_words, mask_word, values_word}
use Rattle.memory.specs.View.{value_at}
use Rattle.memory.specs.Writes.{puts}
use Rattle.memory_places.specs.Bits.{bit}

-- the mask of the values there are, and its bit of provision j
abbrev pub mask_at : List ℕ → ℕ → ℕ
mask_at m i = word m (i * place_words + mask_word)

abbrev pub mask_bit : List ℕ → ℕ → ℕ → ℕ
mask_bit m i j = bit (mask_at m i) j

-- the place of the first port that is the same, counted from i
unfoldable pub port_from : ℕ → Port → List Port → Option ℕ
port_from i q [] = None
port_from i q (p ∷ ps) = pick (same_port q p) (Some i) (port_from (i + 1) q ps)

-- the place of the first provision whose value is none, counted from i
unfoldable pub lack_from : ℕ → List Provision → Option ℕ
lack_from i [] = None
lack_from i (v ∷ vs) = pick (is_none v.value) (Some i) (lack_from (i + 1) vs)

-- the words with one more value in the mask
abbrev pub masked : List ℕ → ℕ → ℕ → List ℕ
masked m i j = set m (i * place_words + mask_word) (mask_at m i + 2 ^ j)

-- a provision that has a value keeps it
unfoldable pub with_value : List ℕ → ℕ → ℕ → ℕ → List ℕ
with_value m i j v = pick (eqb (mask_bit m i j) 1) m (set (masked m i j) (i * place_words + values_word + j) v)

-- There are 15 provisions: past them there is no value, and setting one changes nothing.
unfoldable pub has_value : List ℕ → ℕ → ℕ → Bool
has_value m i j = ltb j max_provision_keys && eqb (mask_bit m i j) 1

unfoldable pub value_below : List ℕ → ℕ → ℕ → Option ℕ
value_below m i j = pick (ltb j max_provision_keys) (value_at m i j) None

unfoldable pub with_value_below : List ℕ → ℕ → ℕ → ℕ → List ℕ
with_value_below m i j v = pick (ltb j max_provision_keys) (with_value m i j v) m

pub value_below_lem : (m : List ℕ) (i j : ℕ) → j < max_provision_keys → value_below m i j ≡ value_at m i j
unfolding value_below
value_below_lem m i j h = rw (lt-ltb j max_provision_keys h)

pub with_value_below_lem : (m : List ℕ) (i j v : ℕ) → j < max_provision_keys → with_value_below m i j v ≡ with_value m i j v
unfolding with_value_below
with_value_below_lem m i j v h = rw (lt-ltb j max_provision_keys h)

-- all of a place's values at once: the mask, and the first 15 values
unfoldable pub put_values : List ℕ → ℕ → ℕ → List ℕ → List ℕ
put_values m i mask values = puts (set m (i * place_words + mask_word) mask) (i * place_words + values_word) 0 (take max_provision_keys values)

-- The mask and the values of provisions: a bit is 1 exactly if its provision has a value, and 0 stands where there is none.
abbrev pub mask_of : List Provision → ℕ
mask_of [] = 0
mask_of (v ∷ vs) = yes_no (is_some v.value) + 2 * mask_of vs

abbrev pub values_of : List Provision → List ℕ
values_of vs = map (λ (v : Provision). or_else v.value 0) vs
