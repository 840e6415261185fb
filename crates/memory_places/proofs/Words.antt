-- What the counts of the occupancy word's bits say of the places. The places from i on are the word halved i times.
use Rattle.std.specs.Prelude.{Option, Some, None}
use Prim.Native.Nat.{ℕ, zero, suc, ◌+◌, ◌-◌, ◌*◌, ◌/◌, ◌%◌, ◌^◌, ◌<◌, ◌≤◌}
use native.Mathlib.Nat.{pow-suc, add-zero, zero-add}
use native.Mathlib.Omega.{arith}
use mathlib.Core.Path.{◌≡◌, refl, sym, ap, ◌∙◌}
use mathlib.Core.Bool.{true, false}
use mathlib.Core.List.{List}
use lib.Count.{ones, ones_step, count_trailing_zeros}
use lib.Dec.{ltb}
use lib.Bits.{bit_or, or_lt}
use lib.ListN.{length, set}
use lib.Pow.{shr-shr, shr_lt}
use borrow.Author.Tests.{lt-ltb, le-ltb, lt-leb, le-leb}
use Rattle.rules.specs.Basics.{pick}
use Rattle.rules.specs.Holds.{held, count}
use Rattle.rules_laws.specs.Laws.Tests.{by_test}
use Rattle.memory.specs.Layout.{occupancy, taken, places, occupancy_word}
use Rattle.memory.specs.View.{place_at, places_from, view}
use Rattle.memory_places.specs.Changes.{free_from, free_at, occupied_at, vacated_at}
use Rattle.memory_places.specs.Bits.{one_shl, or_free, set_le}
use Rattle.memory_places.specs.Taken.{taken_below, taken_one, free_zero}

rest : List ℕ → ℕ → ℕ
rest m i = occupancy m / 2 ^ i

rest_zero : (m : List ℕ) → rest m 0 ≡ occupancy m
unfolding rest
rest_zero m = omega arith

rest_half : (m : List ℕ) (i : ℕ) → rest m (i + 1) ≡ rest m i / 2
unfolding rest
rest_half m i = sym (shr-shr (occupancy m) i 1)

rest_end : (m : List ℕ) → rest m places ≡ 0
unfolding rest
rest_end m = omega arith

rest_one : (m : List ℕ) (i : ℕ) → taken m i ≡ true → rest m i % 2 ≡ 1
unfolding rest
rest_one m i t = taken_one m i t

rest_free : (m : List ℕ) (i : ℕ) → i < places → taken m i ≡ false → rest m i % 2 ≡ 0
unfolding rest
rest_free m i h f = free_zero m i h f

rest_lt : (m : List ℕ) (n i : ℕ) → i + n ≡ places → rest m i < 2 ^ n
unfolding rest
rest_lt m n i e =
    let s : n + i ≡ places = omega arith in
    shr_lt n i (rw s (omega arith))

count_ones : (n : ℕ) (m : List ℕ) (i : ℕ) → i + n ≡ places → length (held (places_from n m i)) ≡ ones (rest m i)
unfolding places_from place_at ones
count_ones zero m i e =
    let s : i ≡ places = omega arith in
    rw (s, rest_end m)
count_ones (suc n) m i e =
    let r = count_ones n m (i + 1) (omega arith) in
    let h = ap ones (rest_half m i) in
    by_test (taken m i)
    (λ t. rw t (omega (arith, ones_step (rest m i), rest_one m i t)))
    (λ f. rw f (omega (arith, ones_step (rest m i), rest_free m i (omega arith) f)))

pub registered_ones : (m : List ℕ) → ones (occupancy m) ≡ count (view m)
unfolding count view
registered_ones m = ap ones (sym (rest_zero m)) ∙ sym (count_ones places m 0 refl)

-- one of the 32, or none
place_of : ℕ → Option ℕ
place_of p = pick (ltb p places) (Some p) None

below : (p : ℕ) → p < places → place_of p ≡ Some p
unfolding place_of
below p h = rw (lt-ltb p places h)

past : (p : ℕ) → places ≤ p → place_of p ≡ None
unfolding place_of
past p h = rw (le-ltb p places h)

-- the complement of a word below twice k, halved
complement_half : (k s w : ℕ) → s ≡ 2 * k → w < s → ((s - 1) - w) / 2 ≡ (k - 1) - w / 2
complement_half k s w e h = omega arith

complement_odd : (k s w : ℕ) → s ≡ 2 * k → w < s → ((s - 1) - w) % 2 ≡ 1 - w % 2
complement_odd k s w e h = omega arith

free_zeros : (n : ℕ) (m : List ℕ) (i : ℕ) → i + n ≡ places → free_from n m i ≡ place_of (i + count_trailing_zeros n ((2 ^ n - 1) - rest m i))
unfolding free_from count_trailing_zeros
free_zeros zero m i e = sym (past (i + 0) (omega arith))
free_zeros (suc n) m i e =
    let r = free_zeros n m (i + 1) (omega arith) in
    let w = rest m i in
    let l = rest_lt m (suc n) i e in
    let hf : ((2 ^ suc n - 1) - w) / 2 ≡ (2 ^ n - 1) - w / 2 = complement_half (2 ^ n) (2 ^ suc n) w (omega (arith, pow-suc 2 n)) l in
    let od : ((2 ^ suc n - 1) - w) % 2 ≡ 1 - w % 2 = complement_odd (2 ^ n) (2 ^ suc n) w (omega (arith, pow-suc 2 n)) l in
    by_test (taken m i)
    (λ t. rw (t, r, hf, od, rest_one m i t, rest_half m i) (on i (count_trailing_zeros n ((2 ^ n - 1) - w / 2))))
    (λ f. rw (f, hf, od, rest_free m i (omega arith) f, add-zero i) (sym (below i (omega arith))))
  where
    on : (i t : ℕ) → place_of (i + 1 + t) ≡ place_of (i + suc t)
    on i t = let s : i + 1 + t ≡ i + suc t = omega arith in ap place_of s

free_place_lem : (m : List ℕ) → free_at m ≡ place_of (count_trailing_zeros 32 ((2 ^ 32 - 1) - occupancy m))
unfolding free_at
free_place_lem m = free_zeros places m 0 refl ∙ ap place_of (zero-add _) ∙ ap (λ x. place_of (count_trailing_zeros 32 ((2 ^ 32 - 1) - x))) (rest_zero m)

module _ (m : List ℕ) (w : ℕ) (e : w ≡ occupancy m) where
  pub free_below : count_trailing_zeros 32 ((2 ^ 32 - 1) - w) < places → Some (count_trailing_zeros 32 ((2 ^ 32 - 1) - w)) ≡ free_at m
  free_below h = sym (free_place_lem m ∙ ap (λ x. place_of (count_trailing_zeros 32 ((2 ^ 32 - 1) - x))) (sym e) ∙ below _ h)

  pub free_none : places ≤ count_trailing_zeros 32 ((2 ^ 32 - 1) - w) → None ≡ free_at m
  free_none h = sym (free_place_lem m ∙ ap (λ x. place_of (count_trailing_zeros 32 ((2 ^ 32 - 1) - x))) (sym e) ∙ past _ h)

-- A place's bit, set or cleared.
pub or_small : (w x : ℕ) → w < 2 ^ 32 → bit_or w (x % 2 ^ 32) < 2 ^ 64
or_small w x h = omega (arith, or_lt 32 w (x % 2 ^ 32) h (omega arith))

module _ (m : List ℕ) (p : ℕ) where
  pub past_occupied : places ≤ p → m ≡ occupied_at m p
  unfolding occupied_at
  past_occupied h = rw (le-leb places p h) (by_test (taken m p) (λ t. rw t) (λ f. rw f))

  pub taken_occupied : taken m p ≡ true → m ≡ occupied_at m p
  unfolding occupied_at
  taken_occupied t = rw t

  pub free_vacated : taken m p ≡ false → m ≡ vacated_at m p
  unfolding vacated_at
  free_vacated f = rw f

  module _ (w : ℕ) (e : w ≡ occupancy m) where
    pub now_occupied : p < places → taken m p ≡ false → set m occupancy_word (bit_or w ((1 * 2 ^ p) % 2 ^ 32)) ≡ occupied_at m p
    unfolding occupied_at
    now_occupied h f =
        let s : bit_or w ((1 * 2 ^ p) % 2 ^ 32) ≡ occupancy m + 2 ^ p = rw (one_shl p h, e) (or_free p (occupancy m) (free_zero m p h f)) in
        rw (f, lt-leb places p h, s)

    pub taken_least : taken m p ≡ true → (1 * 2 ^ p) % 2 ^ 32 ≤ w
    taken_least t = rw (one_shl p (taken_below m p t), e) (set_le p (occupancy m) (taken_one m p t))

    pub now_vacated : taken m p ≡ true → set m occupancy_word (w - (1 * 2 ^ p) % 2 ^ 32) ≡ vacated_at m p
    unfolding vacated_at
    now_vacated t = rw (t, one_shl p (taken_below m p t), e)
