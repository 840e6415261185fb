-- The plugins of some places, as a list in place order and as a word.
use Prim.Native.Nat.{ℕ, zero, suc, ◌+◌, ◌<◌}
use native.Mathlib.Omega.{arith}
use mathlib.Core.Path.{◌≡◌, refl}
use mathlib.Core.Bool.{Bool, not, ◌&&◌}
use mathlib.Core.List.{List, [], ◌∷◌}
use lib.Dec.{eqb, eqb-suc-zero}
use lib.ListN.{length}
use Rattle.rules.specs.Basics.{pick, any, only}
use Rattle.rules.specs.Holds.{Plugin, held}
use Rattle.rules_laws.specs.Laws.Tests.{by_test}
use Rattle.memory.specs.Layout.{taken, places}
use Rattle.memory.specs.View.{plugin_at, place_at, places_from}
use Rattle.memory_providers.specs.Words.{is_among, word_of}
use Rattle.registry_cycles.proofs.Words.{some_yes, none_yet}

-- those of n places from i on that pass, and those of a word
unfoldable pub held_of : (ℕ → Bool) → ℕ → List ℕ → ℕ → List Plugin
held_of f zero m i = []
held_of f (suc n) m i = pick (f i) (plugin_at m i ∷ held_of f n m (i + 1)) (held_of f n m (i + 1))

abbrev pub held_in : List ℕ → ℕ → List Plugin
held_in m w = held_of (is_among w) places m 0

pub held_taken : (n : ℕ) (m : List ℕ) (i : ℕ) → held (places_from n m i) ≡ held_of (taken m) n m i
unfolding held_of places_from place_at
held_taken zero m i = refl
held_taken (suc n) m i =
    let r = held_taken n m (i + 1) in
    by_test (taken m i) (λ t. rw t (rw r)) (λ u. rw u r)

pub only_held : (g : Plugin → Bool) (f : ℕ → Bool) (n : ℕ) (m : List ℕ) (i : ℕ) → only g (held_of f n m i) ≡ held_of (λ j. f j && g (plugin_at m j)) n m i
unfolding held_of
only_held g f zero m i = refl
only_held g f (suc n) m i =
    let r = only_held g f n m (i + 1) in
    by_test (f i)
    (λ t. by_test (g (plugin_at m i)) (λ y. rw t (rw y (rw r))) (λ u. rw t (rw u r)))
    (λ u. rw u r)

pub any_held : (g : Plugin → Bool) (f : ℕ → Bool) (n : ℕ) (m : List ℕ) (i : ℕ)
    → any g (held_of f n m i) ≡ not (eqb (word_of (λ j. f j && g (plugin_at m j)) n i) 0)
unfolding held_of word_of
any_held g f zero m i = refl
any_held g f (suc n) m i =
    let r = any_held g f n m (i + 1) in
    let w = word_of (λ j. f j && g (plugin_at m j)) n (i + 1) in
    by_test (f i)
    (λ t. by_test (g (plugin_at m i)) (λ y. rw t (rw y (rw (some_yes w)))) (λ u. rw t (rw u (rw (none_yet w) r))))
    (λ u. rw u (rw (none_yet w) r))

pub length_held : (f : ℕ → Bool) (n : ℕ) (m : List ℕ) (i : ℕ) → eqb (length (held_of f n m i)) 0 ≡ eqb (word_of f n i) 0
unfolding held_of word_of
length_held f zero m i = refl
length_held f (suc n) m i =
    let r = length_held f n m (i + 1) in
    let w = word_of f n (i + 1) in
    by_test (f i) (λ t. rw t (rw (some_yes w) (eqb-suc-zero (length (held_of f n m (i + 1)))))) (λ u. rw u (rw (none_yet w) r))

pub held_same : (f g : ℕ → Bool) (n : ℕ) (m : List ℕ) (i : ℕ) → ((j : ℕ) → j < i + n → f j ≡ g j) → held_of f n m i ≡ held_of g n m i
unfolding held_of
held_same f g zero m i h = refl
held_same f g (suc n) m i h =
    let s : i + 1 + n ≡ i + suc n = omega arith in
    rw (h i (omega arith), held_same f g n m (i + 1) (λ j l. h j (rw s at l)))
