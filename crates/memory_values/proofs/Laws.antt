-- The steps of the functions: tests of a bit, of a port, of a provision.
use Rattle.std.specs.Prelude.{Option, Some, None}
use Prim.Native.Nat.{ℕ, zero, suc, ◌+◌, ◌-◌, ◌*◌, ◌/◌, ◌%◌, ◌^◌, ◌≤◌, ◌<◌}
use native.Mathlib.Nat.{mod-eq_of_lt, one-mul, pow-suc, add-zero, zero-add, mod-lt}
use native.Mathlib.Numerals.{add-one}
use native.Mathlib.Omega.{arith}
use mathlib.Core.Path.{◌≡◌, sym, ap, ◌∙◌}
use mathlib.Core.Bool.{Bool, true, false}
use mathlib.Core.List.{List, [], ◌∷◌}
use lib.Bits.{bit_or}
use lib.Count.{count_trailing_zeros, under}
use lib.Dec.{eqb, ltb}
use lib.ListN.{length, set}
use lib.Pow.{pow-lt, pow_pos, shr-shr, field, mod-mod-pow}
use borrow.Author.Tests.{eq-eqb, eqb-true, eqb-false, lt-ltb, le-ltb, ltb-true}
use Rattle.rules.specs.Basics.{pick}
use Rattle.rules_types.specs.declared.Port.{Port}
use Rattle.rules.specs.Holds.{same_port}
use Rattle.rules.specs.Ports.{pairs}
use Rattle.rules.specs.Values.{value_in}
use Rattle.rules_laws.specs.Laws.Tests.{by_test, both}
use Rattle.rules_laws.specs.Laws.Members.{same_port_lem}
use Rattle.rules.specs.Limits.{max_provision_keys}
use Rattle.memory.specs.Layout.{word, prov_part, place_words, mask_word, values_word}
use Rattle.memory.specs.View.{value_at, valued, plugin_at}
use Rattle.memory_places.specs.Bits.{or_free}
use Rattle.ports.specs.Places.{length_pairs}
use Rattle.memory_values.specs.Values.{mask_at, mask_bit, port_from, lack_from, with_value, has_value, value_below, with_value_below, value_below_lem}
use Rattle.memory_values.specs.Values.{with_value_below_lem}
use Rattle.memory_values.specs.Firsts.{provisions_at, few_words, port_below, value_there, value_nowhere}

-- past the 15th provision, and one of the 15
module _ (m : List ℕ) (i j : ℕ) where
  pub past_has : max_provision_keys ≤ j → false ≡ has_value m i j
  unfolding has_value
  past_has h = rw (le-ltb j max_provision_keys h)

  pub past_set : max_provision_keys ≤ j → (v : ℕ) → m ≡ with_value_below m i j v
  unfolding with_value_below
  past_set h v = rw (le-ltb j max_provision_keys h)

  pub below_has : j < max_provision_keys → eqb (mask_bit m i j) 1 ≡ has_value m i j
  unfolding has_value
  below_has h = rw (lt-ltb j max_provision_keys h)

module _ (m : List ℕ) (i j : ℕ) (b : Bool) (e : b ≡ has_value m i j) where
  there : b ≡ true → (ltb j max_provision_keys ≡ true) × (eqb (mask_bit m i j) 1 ≡ true)
  unfolding has_value
  there t = both (ltb j max_provision_keys) (eqb (mask_bit m i j) 1) (sym e ∙ t)

  pub value_under : b ≡ true → j < max_provision_keys
  value_under t = ltb-true j max_provision_keys (there t).0

  pub value_is : b ≡ true → Some (word m (i * place_words + values_word + j)) ≡ value_below m i j
  unfolding value_at value_below
  value_is t = rw ((there t).0, (there t).1)

  lacking : b ≡ false → j < max_provision_keys → eqb (mask_bit m i j) 1 ≡ false
  lacking f h = below_has m i j h ∙ sym e ∙ f

  pub value_not : b ≡ false → None ≡ value_below m i j
  unfolding value_at value_below
  value_not f = by_test (ltb j max_provision_keys) (λ y. rw (y, lacking f (ltb-true j max_provision_keys y))) (λ n. rw n)

  -- a value that is there stays; else the mask's bit is 0, and set by a sum
  pub value_stays : b ≡ true → (v : ℕ) → m ≡ with_value_below m i j v
  unfolding with_value with_value_below
  value_stays t v = rw ((there t).0, (there t).1)

  pub value_set : b ≡ false → j < max_provision_keys → (v : ℕ)
      → set (set m (i * place_words + mask_word) (bit_or (mask_at m i) ((1 * 2 ^ j) % 2 ^ 64))) (i * place_words + values_word + j) v ≡ with_value_below m i j v
  unfolding with_value
  value_set f h v =
      let n = eqb-false (mask_bit m i j) 1 (lacking f h) in
      let k : j < 64 = omega arith in
      let one : (1 * 2 ^ j) % 2 ^ 64 ≡ 2 ^ j = ap (λ x. x % 2 ^ 64) (one-mul (2 ^ j)) ∙ mod-eq_of_lt (pow-lt k) in
      let s : bit_or (mask_at m i) ((1 * 2 ^ j) % 2 ^ 64) ≡ mask_at m i + 2 ^ j = rw one (or_free j (mask_at m i) (omega arith)) in
      rw (with_value_below_lem m i j v h, lacking f h, s)

-- a list that starts with p
module _ {l ps : List Port} {p : Port} (s : l ≡ p ∷ ps) where
  pub port_hit : (k : ℕ) (q : Port) → p.key ≡ q.key → p.realm ≡ q.realm → port_from k q l ≡ Some k
  unfolding port_from
  port_hit k q e f = rw (s, eq-eqb q.key p.key (sym e), eq-eqb q.realm p.realm (sym f))

  pub port_miss : (k : ℕ) (q : Port) → (p.key ≡ q.key → p.realm ≡ q.realm → ⊥) → port_from k q l ≡ port_from (k + 1) q ps
  unfolding port_from
  port_miss k q n = by_test (same_port q p)
      (λ t. let e = same_port_lem q p t in absurd (n (ap (λ (v : Port). v.key) e) (ap (λ (v : Port). v.realm) e)))
      (λ f. rw (s, f))

-- the trailing zeros of the complement of a word's low digits go on where the lowest is 1
zeros_step : (n w : ℕ) → count_trailing_zeros (suc n) ((2 ^ suc n - 1) - w % 2 ^ suc n) ≡ under (1 - w % 2) (count_trailing_zeros n ((2 ^ n - 1) - w / 2 % 2 ^ n))
unfolding count_trailing_zeros
zeros_step n w =
    let s : 2 ^ suc n ≡ 2 * 2 ^ n = omega (arith, pow-suc 2 n) in
    let hf = half (2 ^ n) (2 ^ suc n) (w % 2 ^ suc n) s (mod-lt w (pow_pos (suc n))) in
    let od = odd (2 ^ n) (2 ^ suc n) (w % 2 ^ suc n) s (mod-lt w (pow_pos (suc n))) in
    let a : w % 2 ^ suc n / 2 ≡ w / 2 % 2 ^ n = ap (λ x. w % 2 ^ x / 2) (sym (add-one n)) ∙ field w n 1 in
    let b : w % 2 ^ suc n % 2 ≡ w % 2 = ap (λ x. w % 2 ^ x % 2) (sym (add-one n)) ∙ mod-mod-pow w n 1 in
    rw (hf, od, a, b)
  where
    half : (k s x : ℕ) → s ≡ 2 * k → x < s → ((s - 1) - x) / 2 ≡ (k - 1) - x / 2
    half k s x e h = omega arith

    odd : (k s x : ℕ) → s ≡ 2 * k → x < s → ((s - 1) - x) % 2 ≡ 1 - x % 2
    odd k s x e h = omega arith

-- a place below n, or none
below : ℕ → ℕ → Option ℕ
below n j = pick (ltb j n) (Some j) None

-- the provisions from k on, by the low n digits of the mask halved k times
lack_zeros : (m : List ℕ) (i n k : ℕ) (ps : List Port) → length ps ≤ n
    → lack_from k (valued m i k ps) ≡ below (k + length ps) (k + count_trailing_zeros n ((2 ^ n - 1) - mask_at m i / 2 ^ k % 2 ^ n))
unfolding lack_from value_at below
lack_zeros m i n k [] h = rw (le-ltb (k + count_trailing_zeros n ((2 ^ n - 1) - mask_at m i / 2 ^ k % 2 ^ n)) (k + 0) (omega arith))
lack_zeros m i zero k (p ∷ ps) h = absurd (omega arith)
lack_zeros m i (suc n) k (p ∷ ps) h =
    let w = mask_at m i / 2 ^ k in
    let r = lack_zeros m i n (k + 1) ps (omega arith) in
    let hf : mask_at m i / 2 ^ (k + 1) ≡ w / 2 = sym (shr-shr (mask_at m i) k 1) in
    let z = zeros_step n w in
    by_test (eqb (w % 2) 1)
    (λ t. let o = eqb-true (w % 2) 1 t in rw (t, r, hf, z, o) (on k (length ps) (count_trailing_zeros n ((2 ^ n - 1) - w / 2 % 2 ^ n))))
    (λ f. let d = eqb-false (w % 2) 1 f in
    let o : w % 2 ≡ 0 = omega arith in
    rw (f, z, o, add-zero k, lt-ltb k (k + suc (length ps)) (omega arith)))
  where
    on : (k c t : ℕ) → below (k + 1 + c) (k + 1 + t) ≡ below (k + suc c) (k + suc t)
    on k c t =
        let x : k + 1 + c ≡ k + suc c = omega arith in
        let y : k + 1 + t ≡ k + suc t = omega arith in
        rw (x, y)

-- A plugin has 15 provisions at most, so the mask's low 32 digits are enough.
module _ (m : List ℕ) (i : ℕ) (ws : List ℕ) (e : ws ≡ prov_part m i) where
  lack_place : lack_from 0 (plugin_at m i).provisions ≡ below (length ws / 2) (count_trailing_zeros 32 ((2 ^ 32 - 1) - mask_at m i % 2 ^ 32))
  lack_place =
      let ps = pairs (prov_part m i) in
      let w : mask_at m i / 2 ^ 0 ≡ mask_at m i = omega arith in
      let c : 0 + length ps ≡ length ws / 2 = omega (arith, length_pairs (prov_part m i), ap length e) in
      let z = lack_zeros m i 32 0 ps (omega (arith, length_pairs (prov_part m i), few_words m i)) in
      ap (lack_from 0) (provisions_at m i) ∙ z
      ∙ ap (λ x. below x (0 + count_trailing_zeros 32 ((2 ^ 32 - 1) - mask_at m i / 2 ^ 0 % 2 ^ 32))) c
      ∙ ap (below (length ws / 2)) (zero-add (count_trailing_zeros 32 ((2 ^ 32 - 1) - mask_at m i / 2 ^ 0 % 2 ^ 32)))
      ∙ ap (λ x. below (length ws / 2) (count_trailing_zeros 32 ((2 ^ 32 - 1) - x % 2 ^ 32))) w

  pub lack_here : count_trailing_zeros 32 ((2 ^ 32 - 1) - mask_at m i % 2 ^ 32) < length ws / 2
      → Some (count_trailing_zeros 32 ((2 ^ 32 - 1) - mask_at m i % 2 ^ 32)) ≡ lack_from 0 (plugin_at m i).provisions
  unfolding below
  lack_here h = sym (lack_place ∙ rw (lt-ltb (count_trailing_zeros 32 ((2 ^ 32 - 1) - mask_at m i % 2 ^ 32)) (length ws / 2) h))

  pub lack_none : length ws / 2 ≤ count_trailing_zeros 32 ((2 ^ 32 - 1) - mask_at m i % 2 ^ 32) → None ≡ lack_from 0 (plugin_at m i).provisions
  unfolding below
  lack_none h = sym (lack_place ∙ rw (le-ltb (count_trailing_zeros 32 ((2 ^ 32 - 1) - mask_at m i % 2 ^ 32)) (length ws / 2) h))

-- a port's place among the provisions is below 15
module _ (m : List ℕ) (i : ℕ) (q : Port) (ws : List ℕ) (w : ws ≡ prov_part m i) (f : Option ℕ) (e : f ≡ port_from 0 q (pairs ws)) where
  found : f ≡ port_from 0 q (pairs (prov_part m i))
  found = e ∙ ap (λ l. port_from 0 q (pairs l)) w

  pub no_value : f ≡ None → None ≡ value_in q (plugin_at m i).provisions
  no_value n = sym (ap (value_in q) (provisions_at m i) ∙ value_nowhere m i q (pairs (prov_part m i)) (sym found ∙ n))

  pub its_value : (j : ℕ) → f ≡ Some j → value_below m i j ≡ value_in q (plugin_at m i).provisions
  its_value j n =
      let e = sym found ∙ n in
      value_below_lem m i j (port_below m i q j e) ∙ sym (ap (value_in q) (provisions_at m i) ∙ value_there m i q (pairs (prov_part m i)) j e)
