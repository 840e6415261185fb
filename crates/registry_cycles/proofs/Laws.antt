-- A place's plugin, and the test of those that run, place by place.
use Prim.Native.Nat.{ℕ, zero, suc, ◌+◌, ◌-◌, ◌%◌, ◌<◌, ◌≤◌}
use native.Mathlib.Nat.{mod-eq_of_lt}
use native.Mathlib.Omega.{arith}
use mathlib.Core.Path.{◌≡◌, refl, sym, ap, ◌∙◌}
use mathlib.Core.Bool.{Bool, true, false, ◌||◌}
use mathlib.Core.List.{List}
use lib.Dec.{eqb}
use borrow.Author.Tests.{ltb-true, eqb-true, eqb-false}
use Rattle.rules.specs.Basics.{all, ◌⊃◌}
use Rattle.rules.specs.Holds.{Plugin, held, plugins, running, is_loading, is_active}
use Rattle.rules.specs.Phases.{available}
use Rattle.rules_laws.specs.Laws.Tests.{by_test, both}
use Rattle.memory.specs.Layout.{taken, places}
use Rattle.memory.specs.View.{life_at, plugin_at, place_at, places_from, view}
use Rattle.memory.specs.declared.Life.{Life}
use Rattle.memory_providers.specs.Words.{is_among, word_of}
use Rattle.registry_cycles.specs.Rows.{served_in}
use Rattle.registry_cycles.specs.Runs.{runs_at, all_of}
use Rattle.registry_cycles.proofs.Words.{among_word}

-- a taken place's own number
own : (m : List ℕ) (i : ℕ) → taken m i ≡ true → i % places ≡ i
unfolding taken
own m i t = mod-eq_of_lt (ltb-true _ _ (both _ _ t).0)

pub runs_taken : (m : List ℕ) (i : ℕ) (l : Life) (b : Bool) → taken m i ≡ true → l ≡ life_at m (i % places)
    → b ≡ (is_loading l.phase || is_active l.phase) → b ≡ runs_at m i
unfolding plugin_at
runs_taken m i l b t e f =
    let g : l ≡ life_at m i = e ∙ ap (life_at m) (own m i t) in
    rw t (f ∙ ap (λ (y : Life). is_loading y.phase || is_active y.phase) g)

-- the places from i on
module _ (f : ℕ → Bool) (i : ℕ) where
  pub all_end : places ≤ i → all_of f (places - i) i ≡ true
  unfolding all_of
  all_end h = let s : places - i ≡ 0 = omega arith in rw s

  module _ (h : i < places) where
    one_less : places - i ≡ suc (places - (i + 1))
    one_less = omega arith

    pub all_next : f i ≡ true → all_of f (places - i) i ≡ all_of f (places - (i + 1)) (i + 1)
    unfolding all_of
    all_next y = rw one_less (rw y)

    pub all_not : f i ≡ false → all_of f (places - i) i ≡ false
    unfolding all_of
    all_not n = rw one_less (rw n)

all_same : (f g : ℕ → Bool) (n i : ℕ) → ((j : ℕ) → j < i + n → f j ≡ g j) → all_of f n i ≡ all_of g n i
unfolding all_of
all_same f g zero i h = refl
all_same f g (suc n) i h =
    let s : i + 1 + n ≡ i + suc n = omega arith in
    rw (h i (omega arith), all_same f g n (i + 1) (λ j l. h j (rw s at l)))

-- one of them
pub all_at : (f : ℕ → Bool) (n i j : ℕ) → all_of f n i ≡ true → i ≤ j → j < i + n → f j ≡ true
unfolding all_of
all_at f zero i j e g h = absurd (omega arith)
all_at f (suc n) i j e g h = by_test (eqb j i)
    (λ y. ap f (eqb-true j i y) ∙ (both (f i) (all_of f n (i + 1)) e).0)
    (λ d. let k = eqb-false j i d in all_at f n (i + 1) j (both (f i) (all_of f n (i + 1)) e).1 (omega arith) (omega arith))

-- the plugins that run
all_running : (g : Plugin → Bool) (n : ℕ) (m : List ℕ) (i : ℕ)
    → all (λ (p : Plugin). running p ⊃ g p) (held (places_from n m i)) ≡ all_of (λ j. runs_at m j ⊃ g (plugin_at m j)) n i
unfolding all_of places_from place_at
all_running g zero m i = refl
all_running g (suc n) m i =
    let r = all_running g n m (i + 1) in
    by_test (taken m i) (λ t. rw t (rw r)) (λ u. rw u r)

pub served_plugins : (m : List ℕ) (among : ℕ) → among ≡ word_of (runs_at m) places 0
    → all_of (served_in m among) places 0 ≡ all (λ (p : Plugin). running p ⊃ all (available (view m)) p.dependencies) (plugins (view m))
unfolding view
served_plugins m among e =
    let g : Plugin → Bool = λ (p : Plugin). all (available (view m)) p.dependencies in
    all_same (served_in m among) (λ j. runs_at m j ⊃ g (plugin_at m j)) places 0
    (λ j l. ap (λ b. b ⊃ g (plugin_at m j)) (ap (λ w. is_among w j) e ∙ among_word (runs_at m) j l))
    ∙ sym (all_running g places m 0)
