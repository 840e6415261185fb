-- Which places are taken once one is taken or freed. Only word 3 changes.
use Rattle.std.specs.Prelude.{ℕ, ◌+◌, ◌-◌, ◌^◌, ◌<◌, ◌≡◌, ◌≢◌, Bool, true, false, ◌&&◌, ◌||◌, List}
use native.Mathlib.Omega.{arith}
use Rattle.std.proofs.Common.{mod-eq_of_lt, ◌∙◌, length-set, get_or-set_same, get_or-set_other}
use Rattle.std.proofs.Math.Path.{refl, ap}
use Rattle.std.proofs.Math.Bool.{and-false}
use Rattle.std.proofs.Math.Dec.{eqb, ltb, leb}
use Rattle.std.proofs.Math.ListN.{length}
use borrow.Author.Tests.{ltb-true, lt-ltb, eqb-true, eqb-false, lt-leb}
use Rattle.rules.specs.Basics.{pick}
use Rattle.rules_laws.specs.Laws.Tests.{both}
use Rattle.memory.specs.Layout.{word, occupancy, taken, memory_words, places, occupancy_word}
use Rattle.memory_places.specs.Changes.{occupied_at, vacated_at}
use Rattle.memory_places.specs.Bits.{bit, set_there, set_others, set_lt, clear_there, clear_others}

-- A taken place is one of the 32, and its bit is 1.
module _ (m : List ℕ) (i : ℕ) where
  pub taken_below : taken m i ≡ true → i < places
  unfolding taken
  taken_below t = ltb-true _ _ (both (ltb i places) _ t).0

  pub taken_one : taken m i ≡ true → bit (occupancy m) i ≡ 1
  unfolding taken
  taken_one t = eqb-true _ _ (both (ltb i places) _ t).1

  pub free_zero : i < places → taken m i ≡ false → bit (occupancy m) i ≡ 0
  unfolding taken
  free_zero h f = let n = eqb-false (bit (occupancy m) i) 1 (rw (lt-ltb i places h) at f) in omega arith

  one_taken : i < places → bit (occupancy m) i ≡ 1 → taken m i ≡ true
  unfolding taken
  one_taken h e = rw (lt-ltb i places h, e)

  zero_free : bit (occupancy m) i ≡ 0 → taken m i ≡ false
  unfolding taken
  zero_free e = rw e (and-false (ltb i places))

  same_bit : (m' : List ℕ) → bit (occupancy m') i ≡ bit (occupancy m) i → taken m' i ≡ taken m i
  unfolding taken
  same_bit m' e = ap (λ x. ltb i places && eqb x 1) e

either : {A : Type 0} (P : A → Type 0) (b : Bool) (x y : A) → P x → P y → P (pick b x y)
either P true x y p q = p
either P false x y p q = q

-- whatever the place, the length and the other words stay
module _ (m : List ℕ) (p : ℕ) where
  pub occupied_length : length (occupied_at m p) ≡ length m
  unfolding occupied_at
  occupied_length = either (λ l. length l ≡ length m) (taken m p || leb places p) m _ refl (length-set m occupancy_word _)

  pub occupied_word : (k : ℕ) → k ≢ 3 → word (occupied_at m p) k ≡ word m k
  unfolding occupied_at
  occupied_word k n = either (λ l. word l k ≡ word m k) (taken m p || leb places p) m _ refl (get_or-set_other m occupancy_word k _ 0 n)

  pub vacated_length : length (vacated_at m p) ≡ length m
  unfolding vacated_at
  vacated_length = either (λ l. length l ≡ length m) (taken m p) _ m (length-set m occupancy_word _) refl

  pub vacated_word : (k : ℕ) → k ≢ 3 → word (vacated_at m p) k ≡ word m k
  unfolding vacated_at
  vacated_word k n = either (λ l. word l k ≡ word m k) (taken m p) _ m (get_or-set_other m occupancy_word k _ 0 n) refl

  -- a free place is taken
  module _ (size : length m ≡ memory_words) (h : p < places) (free : taken m p ≡ false) where
    pub occupied_three : word (occupied_at m p) 3 ≡ occupancy m + 2 ^ p
    unfolding occupied_at
    occupied_three = rw (free, lt-leb places p h) (get_or-set_same m occupancy_word (occupancy m + 2 ^ p) 0 (omega arith))

    pub occupied_small : word (occupied_at m p) occupancy_word < 2 ^ places
    occupied_small = rw occupied_three (set_lt places p (occupancy m) h (omega arith) (free_zero m p h free))

    pub occupied_occupancy : occupancy (occupied_at m p) ≡ occupancy m + 2 ^ p
    occupied_occupancy = mod-eq_of_lt occupied_small ∙ occupied_three

    pub occupied_here : taken (occupied_at m p) p ≡ true
    occupied_here = one_taken (occupied_at m p) p h (ap (λ x. bit x p) occupied_occupancy ∙ set_there p (occupancy m) (free_zero m p h free))

    pub occupied_others : (j : ℕ) → j ≢ p → taken (occupied_at m p) j ≡ taken m j
    occupied_others j n = same_bit m j (occupied_at m p) (ap (λ x. bit x j) occupied_occupancy ∙ set_others p j (occupancy m) n (free_zero m p h free))

  -- a taken place is freed
  module _ (size : length m ≡ memory_words) (there : taken m p ≡ true) where
    pub vacated_three : word (vacated_at m p) 3 ≡ occupancy m - 2 ^ p
    unfolding vacated_at
    vacated_three = rw there (get_or-set_same m occupancy_word (occupancy m - 2 ^ p) 0 (omega arith))

    pub vacated_small : word (vacated_at m p) occupancy_word < 2 ^ places
    vacated_small = omega (arith, vacated_three)

    pub vacated_occupancy : occupancy (vacated_at m p) ≡ occupancy m - 2 ^ p
    vacated_occupancy = mod-eq_of_lt vacated_small ∙ vacated_three

    pub vacated_here : taken (vacated_at m p) p ≡ false
    vacated_here = zero_free (vacated_at m p) p (ap (λ x. bit x p) vacated_occupancy ∙ clear_there p (occupancy m) (taken_one m p there))

    pub vacated_others : (j : ℕ) → j ≢ p → taken (vacated_at m p) j ≡ taken m j
    vacated_others j n = same_bit m j (vacated_at m p) (ap (λ x. bit x j) vacated_occupancy ∙ clear_others p j (occupancy m) n (taken_one m p there))
