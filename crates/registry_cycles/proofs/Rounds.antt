-- A round over words is a round over the plugins of their places.
use Prim.Native.Nat.{ℕ, zero, suc, ◌+◌, ◌-◌, ◌^◌, ◌<◌, ◌≤◌}
use native.Mathlib.Omega.{arith}
use mathlib.Core.Path.{◌≡◌, refl, sym, ap, ◌∙◌}
use mathlib.Core.Bool.{Bool, true, false, not, ◌&&◌, and-true, and-false}
use mathlib.Core.List.{List}
use lib.Bits.{bit_and}
use lib.Dec.{eqb}
use Rattle.rules.specs.Basics.{any, only}
use Rattle.rules.specs.Holds.{held, plugins, running}
use Rattle.rules.specs.Conditions.{needs, still_waiting, none_left_after, no_cycles}
use Rattle.rules_laws.specs.Laws.Tests.{by_test, both}
use Rattle.memory.specs.Layout.{word, taken, places}
use Rattle.memory.specs.View.{plugin_at, places_from, view}
use Rattle.memory_places.specs.Bits.{bit_none}
use Rattle.memory_providers.specs.Words.{is_among, word_of, word_lt, word_none}
use Rattle.registry_cycles.specs.Runs.{runs_at}
use Rattle.registry_cycles.specs.Left.{Needed, waits_at, none_waiting}
use Rattle.registry_cycles.proofs.Words.{among_word, bits_word, and_word, word_same}
use Rattle.registry_cycles.proofs.Held.{held_in, held_taken, only_held, any_held, length_held, held_same}

-- needed among many, and left among them: needed among those left
no_more : (a b c : Bool) → (c ≡ true → a ≡ true) → ((a && b) && c) ≡ (c && b)
no_more a b true h = rw (h refl) (and-true b)
no_more a b false h = and-false (a && b)

-- Rows say who needs whom among the places of a word, and those that are left are among them.
module _ (m : List ℕ) (among : ℕ) (rows : List ℕ) (needed : Needed m among rows places) (left : ℕ) (small : left < 2 ^ places)
    (within : (j : ℕ) → j < places → is_among left j ≡ true → is_among among j ≡ true) where
  row_waits : (i : ℕ) → i < places → is_among left i ≡ true → not (eqb (bit_and (word rows i) left) 0) ≡ any (needs (plugin_at m i)) (held_in m left)
  row_waits i h t =
      let f : ℕ → Bool = λ j. is_among among j && needs (plugin_at m i) (plugin_at m j) in
      let both_words : bit_and (word rows i) left ≡ word_of (λ j. f j && is_among left j) places 0 =
      ap (λ x. bit_and x left) (needed i h (within i h t)) ∙ ap (bit_and (word_of f places 0)) (sym (bits_word left places small))
      ∙ and_word f (is_among left) places 0 in
      let same : word_of (λ j. f j && is_among left j) places 0 ≡ word_of (λ j. is_among left j && needs (plugin_at m i) (plugin_at m j)) places 0 =
      word_same _ _ places 0 (λ j l. no_more (is_among among j) (needs (plugin_at m i) (plugin_at m j)) (is_among left j) (within j l)) in
      ap (λ x. not (eqb x 0)) (both_words ∙ same) ∙ sym (any_held (needs (plugin_at m i)) (is_among left) places m 0)

  waits_is : (i : ℕ) → i < places → waits_at rows left i ≡ (is_among left i && any (needs (plugin_at m i)) (held_in m left))
  waits_is i h = by_test (is_among left i) (λ t. rw t (row_waits i h t)) (λ u. rw u)

  pub round_word : (next : ℕ) → next ≡ word_of (waits_at rows left) places 0 → held_in m next ≡ still_waiting (held_in m left)
  round_word next e =
      held_same (is_among next) _ places m 0 (λ j l. ap (λ x. is_among x j) e ∙ among_word (waits_at rows left) j l ∙ waits_is j l)
      ∙ sym (only_held (λ p. any (needs p) (held_in m left)) (is_among left) places m 0)

-- All rounds over words are all rounds over plugins.
module _ (m : List ℕ) (among : ℕ) (rows : List ℕ) (needed : Needed m among rows places) where
  rounds : (n left : ℕ) → left < 2 ^ places → ((j : ℕ) → j < places → is_among left j ≡ true → is_among among j ≡ true)
      → none_waiting n rows left ≡ none_left_after n (held_in m left)
  unfolding none_waiting none_left_after
  rounds zero left small within = sym (length_held (is_among left) places m 0 ∙ ap (λ x. eqb x 0) (bits_word left places small))
  rounds (suc n) left small within =
      let next = word_of (waits_at rows left) places 0 in
      rounds n next (word_lt (waits_at rows left) places 0)
      (λ j l y. within j l (both (is_among left j) _ (sym (among_word (waits_at rows left) j l) ∙ y)).0)
      ∙ ap (none_left_after n) (round_word m among rows needed left small within next refl)

  pub rounds_all : among ≡ word_of (runs_at m) places 0 → none_waiting places rows among ≡ no_cycles (plugins (view m))
  unfolding view
  rounds_all e =
      let s : only running (held (places_from places m 0)) ≡ held_in m among =
      ap (only running) (held_taken places m 0) ∙ only_held running (taken m) places m 0
      ∙ held_same (runs_at m) (is_among among) places m 0 (λ j l. sym (ap (λ x. is_among x j) e ∙ among_word (runs_at m) j l)) in
      rounds places among (rw e (word_lt (runs_at m) places 0)) (λ j l t. t) ∙ sym (ap (none_left_after places) s)

-- Where none is left none comes back, and places that stay as they are stay for ever.
pub none_over : (n : ℕ) (rows : List ℕ) (left : ℕ) → left ≡ 0 → none_waiting n rows left ≡ true
unfolding none_waiting
none_over zero rows left z = rw z
none_over (suc n) rows left z =
    none_over n rows (word_of (waits_at rows left) places 0) (sym (word_none (waits_at rows left) (λ j. rw (z, bit_none j)) places 0))

pub none_still : (n : ℕ) (rows : List ℕ) (left : ℕ) → left ≡ word_of (waits_at rows left) places 0 → none_waiting n rows left ≡ eqb left 0
unfolding none_waiting
none_still zero rows left e = refl
none_still (suc n) rows left e = ap (none_waiting n rows) (sym e) ∙ none_still n rows left e

module _ (rows : List ℕ) (left n : ℕ) where
  pub none_next : n < places → none_waiting (places - n) rows left ≡ none_waiting (places - (n + 1)) rows (word_of (waits_at rows left) places 0)
  unfolding none_waiting
  none_next h = let s : places - n ≡ suc (places - (n + 1)) = omega arith in ap (λ k. none_waiting k rows left) s

  pub none_end : places ≤ n → none_waiting (places - n) rows left ≡ eqb left 0
  unfolding none_waiting
  none_end h = let s : places - n ≡ 0 = omega arith in ap (λ k. none_waiting k rows left) s
