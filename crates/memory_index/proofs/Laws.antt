-- The turns of noting ports and of looking through a word's places.
use Rattle.std.specs.Prelude.{Option, Some, None}
use Prim.Native.Nat.{ℕ, zero, suc, ◌+◌, ◌-◌, ◌*◌, ◌/◌, ◌%◌, ◌^◌, ◌<◌, ◌≤◌, min}
use native.Mathlib.Nat.{pow-suc, zero-add, mod-eq_of_lt}
use borrow.Author.Tests.{eqb-true, eqb-false}
use native.Mathlib.Omega.{arith}
use mathlib.Core.Path.{◌≡◌, refl, sym, ap, ◌∙◌}
use mathlib.Core.Logic.{◌≢◌}
use mathlib.Core.Bool.{Bool, true, false, ◌&&◌}
use mathlib.Core.List.{List, ◌∷◌}
use lib.Bits.{bit_and, bit_or, and_step, and_self, and_le_l, and_le_r}
use lib.Count.{count_trailing_zeros}
use lib.Dec.{eqb}
use lib.ListN.{length, drop, get_or, set}
use lib.Pow.{shr-shr}
use Rattle.rules.specs.Basics.{pick}
use Rattle.rules.specs.Holds.{port, provides}
use Rattle.rules.specs.Ports.{pairs}
use Rattle.rules_types.specs.declared.Port.{Port}
use Rattle.rules_laws.specs.Laws.Pairs.{pairs_at, pairs_end}
use Rattle.rules_laws.specs.Laws.Tests.{by_test}
use Rattle.memory.specs.Layout.{word, taken, places}
use Rattle.memory.specs.View.{plugin_at}
use Rattle.memory_providers.specs.Providers.{offered_part}
use Rattle.memory_index.specs.Index.{word_for, noted, index_from, first_among}

-- the rows from one on are noted
module _ (t : List ℕ) (i : ℕ) (l : List ℕ) where
  abbrev pub NotedFrom : ℕ → List ℕ → Type 0
  NotedFrom row u = (row * 2 ≤ length l) × (u ≡ noted t i (pairs (drop (row * 2) l)))

  pub noted_none : (row : ℕ) → row * 2 ≤ length l → length l ≤ row * 2 + 1 → NotedFrom row t
  unfolding noted
  noted_none row h g = (h, rw (pairs_end l (row * 2) g))

  pub noted_next : (row : ℕ) (u : List ℕ) → NotedFrom row u → 0 < row → (a b : ℕ) → a ≡ word_for (get_or l ((row - 1) * 2) 0) → b ≡ (1 * 2 ^ i) % 2 ^ 32
      → NotedFrom (row - 1) (set u a (bit_or (word u a) b))
  unfolding noted
  noted_next row u s h a b e f =
      let at = (row - 1) * 2 in
      let g : at + 2 ≡ row * 2 = omega arith in
      let p : pairs (drop at l) ≡ port (get_or l at 0) (get_or l (at + 1) 0) ∷ pairs (drop (row * 2) l) = rw g at (pairs_at l at (omega (arith, s.0))) in
      (omega (arith, s.0), rw (p, e, f, s.1))

-- the places from i on are indexed
module _ (m t : List ℕ) (i : ℕ) (h : i < places) where
  one_less : places - i ≡ suc (places - (i + 1))
  one_less = omega arith

  turn : {b : Bool} → taken m i ≡ b
      → index_from (places - i) m t i ≡ index_from (places - (i + 1)) m (pick b (noted t i (pairs (offered_part m i))) t) (i + 1)
  unfolding index_from
  turn e = ap (λ n. index_from n m t i) one_less ∙ ap (λ b. index_from (places - (i + 1)) m (pick b (noted t i (pairs (offered_part m i))) t) (i + 1)) e

  pub index_taken : taken m i ≡ true → {ws : List ℕ} → ws ≡ offered_part m (i % places) → {u : List ℕ} → u ≡ noted t i (pairs ws)
      → index_from (places - i) m t i ≡ index_from (places - (i + 1)) m u (i + 1)
  index_taken y e f =
      turn y ∙ ap (λ u. index_from (places - (i + 1)) m u (i + 1)) (sym (f ∙ ap (λ l. noted t i (pairs l)) (e ∙ ap (offered_part m) (mod-eq_of_lt h))))

  pub index_free : taken m i ≡ false → {u : List ℕ} → u ≡ t → index_from (places - i) m t i ≡ index_from (places - (i + 1)) m u (i + 1)
  index_free n e = turn n ∙ ap (λ u. index_from (places - (i + 1)) m u (i + 1)) (sym e)

pub index_end : (m t : List ℕ) (i : ℕ) → places ≤ i → index_from (places - i) m t i ≡ t
unfolding index_from
index_end m t i h = let s : places - i ≡ 0 = omega arith in rw s

-- the zeros below the lowest bit
zeros_even : (n w : ℕ) → w % 2 ≡ 0 → count_trailing_zeros (suc n) w ≡ suc (count_trailing_zeros n (w / 2))
unfolding count_trailing_zeros
zeros_even n w e = rw e

zeros_odd : (n w : ℕ) → w % 2 ≡ 1 → count_trailing_zeros (suc n) w ≡ 0
unfolding count_trailing_zeros
zeros_odd n w o = rw o

zeros_below : (n w : ℕ) → w < 2 ^ n → 0 < w → count_trailing_zeros n w < n
zeros_below zero w l z = absurd (omega arith)
zeros_below (suc n) w l z = by_test (eqb (w % 2) 1)
    (λ t. omega (arith, zeros_odd n w (eqb-true (w % 2) 1 t)))
    (λ f.
    let e : w % 2 ≡ 0 = omega (arith, eqb-false (w % 2) 1 f) in
    omega (arith, zeros_even n w e, zeros_below n (w / 2) (omega (arith, pow-suc 2 n)) (omega arith)))

-- a word's places by halving: the lowest bit is place i's
module _ (m : List ℕ) (q : Port) where
  unfoldable first_in : ℕ → ℕ → ℕ → Option ℕ
  first_in zero w i = None
  first_in (suc n) w i = pick (eqb (w % 2) 1 && provides (plugin_at m i) q) (Some i) (first_in n (w / 2) (i + 1))

  halved : (n w i : ℕ) → first_among n m w q i ≡ first_in n (w / 2 ^ i) i
  unfolding first_in first_among
  halved zero w i = refl
  halved (suc n) w i = let s : w / 2 ^ (i + 1) ≡ w / 2 ^ i / 2 = sym (shr-shr w i 1) in rw (halved n w (i + 1), s)

  whole : (w : ℕ) → first_among places m w q 0 ≡ first_in places w 0
  whole w = let s : w / 2 ^ 0 ≡ w = omega arith in halved places w 0 ∙ ap (λ x. first_in places x 0) s

  none_in : (n i : ℕ) → first_in n 0 i ≡ None
  unfolding first_in
  none_in zero i = refl
  none_in (suc n) i = none_in n (i + 1)

  pub found_none : (w : ℕ) → w ≡ 0 → first_among places m w q 0 ≡ None
  found_none w e = whole w ∙ ap (λ x. first_in places x 0) e ∙ none_in places 0

  -- the place of the lowest bit, counted from i, and the word without that bit
  abbrev lowest : ℕ → ℕ → ℕ → ℕ
  lowest n w i = i + count_trailing_zeros n w

  abbrev without : ℕ → ℕ
  without w = bit_and w (w - 1)

  module _ (n w i : ℕ) where
    lowest_even : w % 2 ≡ 0 → lowest (suc n) w i ≡ lowest n (w / 2) (i + 1)
    lowest_even e = omega (arith, zeros_even n w e)

    lowest_odd : w % 2 ≡ 1 → lowest (suc n) w i ≡ i
    lowest_odd o = omega (arith, zeros_odd n w o)

    first_even : w % 2 ≡ 0 → (v : ℕ) → w / 2 ≡ v → first_in (suc n) w i ≡ first_in n v (i + 1)
    unfolding first_in
    first_even e v f = rw (e, f)

    first_odd : w % 2 ≡ 1 → (b : Bool) → provides (plugin_at m i) q ≡ b → first_in (suc n) w i ≡ pick b (Some i) (first_in n (w / 2) (i + 1))
    unfolding first_in
    first_odd o b p = rw (o, p)

  odd_without : (w : ℕ) → w % 2 ≡ 1 → without w ≡ w / 2 * 2
  odd_without w o =
      let h : (w - 1) / 2 ≡ w / 2 = omega arith in
      let e : min (w % 2) ((w - 1) % 2) ≡ 0 = omega arith in
      and_step w (w - 1) ∙ rw (h, e, and_self (w / 2)) (omega arith)

  even_without : (w : ℕ) → 0 < w → w % 2 ≡ 0 → without w ≡ without (w / 2) * 2
  even_without w p o =
      let h : (w - 1) / 2 ≡ w / 2 - 1 = omega arith in
      let e : min (w % 2) ((w - 1) % 2) ≡ 0 = omega arith in
      and_step w (w - 1) ∙ rw (h, e) (omega arith)

  -- It is found if it provides the port, and else its bit may go.
  lowest_first : (n w i : ℕ) → w < 2 ^ n → 0 < w → provides (plugin_at m (lowest n w i)) q ≡ true → first_in n w i ≡ Some (lowest n w i)
  lowest_first zero w i l z y = absurd (omega arith)
  lowest_first (suc n) w i l z y = by_test (eqb (w % 2) 1)
      (λ t. let o = eqb-true (w % 2) 1 t in
      let s = lowest_odd n w i o in
      first_odd n w i o true (rw s at y) ∙ ap Some (sym s))
      (λ f. let e : w % 2 ≡ 0 = omega (arith, eqb-false (w % 2) 1 f) in
      let s = lowest_even n w i e in
      first_even n w i e (w / 2) refl ∙ lowest_first n (w / 2) (i + 1) (omega (arith, pow-suc 2 n)) (omega arith) (rw s at y) ∙ ap Some (sym s))

  lowest_goes : (n w i : ℕ) → w < 2 ^ n → 0 < w → provides (plugin_at m (lowest n w i)) q ≡ false → first_in n w i ≡ first_in n (without w) i
  lowest_goes zero w i l z y = absurd (omega arith)
  lowest_goes (suc n) w i l z y = by_test (eqb (w % 2) 1)
      (λ t. let o = eqb-true (w % 2) 1 t in
      let c = odd_without w o in
      first_odd n w i o false (rw (lowest_odd n w i o) at y) ∙ sym (first_even n (without w) i (omega arith) (w / 2) (omega arith)))
      (λ f. let e : w % 2 ≡ 0 = omega (arith, eqb-false (w % 2) 1 f) in
      let c = even_without w z e in
      first_even n w i e (w / 2) refl
      ∙ lowest_goes n (w / 2) (i + 1) (omega (arith, pow-suc 2 n)) (omega arith) (rw (lowest_even n w i e) at y)
      ∙ sym (first_even n (without w) i (omega arith) (without (w / 2)) (omega arith)))

  -- One turn of a lookup.
  module _ (w : ℕ) (l : w < 2 ^ 32) (z : w ≢ 0) where
    abbrev at : ℕ
    at = count_trailing_zeros 32 w

    some : 0 < w
    some = pos w z
      where
        pos : (w : ℕ) → w ≢ 0 → 0 < w
        pos zero z = absurd (z refl)
        pos (suc w) z = omega arith

    own : {b : Bool} → b ≡ provides (plugin_at m (at % places)) q → provides (plugin_at m (lowest 32 w 0)) q ≡ b
    own e = ap (λ j. provides (plugin_at m j) q) (zero-add at ∙ sym (mod-eq_of_lt (zeros_below 32 w l some))) ∙ sym e

    pub found_here : {b : Bool} → b ≡ provides (plugin_at m (at % places)) q → b ≡ true → Some at ≡ first_among places m w q 0
    found_here e y = sym (whole w ∙ lowest_first 32 w 0 l some (own e ∙ y) ∙ ap Some (zero-add at))

    pub found_next : {b : Bool} → b ≡ provides (plugin_at m (at % places)) q → b ≡ false → first_among places m w q 0 ≡ first_among places m (without w) q 0
    found_next e n = whole w ∙ lowest_goes 32 w 0 l some (own e ∙ n) ∙ sym (whole (without w))

    pub next_small : without w < 2 ^ 32
    next_small = omega (arith, and_le_l w (w - 1))

    pub next_less : without w < w
    next_less = omega (arith, and_le_r w (w - 1), some)
