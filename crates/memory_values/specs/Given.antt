-- A place's values put all at once: its provisions then have the values whose mask and numbers were put, and all else reads as before.
use Rattle.std.specs.Prelude.{ℕ, suc, ◌+◌, ◌*◌, ◌/◌, ◌%◌, ◌^◌, ◌≤◌, ◌<◌, ◌≡◌, refl, ◌≢◌, Bool, true, false, List, [], ◌∷◌, ◌++◌, map, length, get_or, set, Option, Some, None}
use Rattle.std.proofs.Common.{pow-suc, sym, ap, ◌∙◌, length-take, shr-shr, get_or-set_other}
use native.Mathlib.Omega.{arith}
use Rattle.std.proofs.lemmas.List.{map-append, length-map}
use Rattle.std.proofs.Math.ListN.{take, length-set}
use Rattle.std.proofs.Math.Seq.{get_or-set_same, take_all}
use Rattle.rules.specs.Basics.{is_some, or_else, yes_no}
use Rattle.rules.specs.Holds.{Provision, with_provisions}
use Rattle.rules_types.specs.declared.Port.{Port}
use Rattle.rules.specs.Limits.{max_provision_keys}
use Rattle.rules.specs.Ports.{pairs}
use Rattle.memory.specs.Layout.{word, taken, prov_part, memory_words, place_words, places, mask_word, values_word}
use Rattle.memory.specs.View.{value_at, valued, plugin_at}
use Rattle.memory.specs.Frames.{puts_length, puts_apart, puts_before, puts_same}
use Rattle.memory_values.specs.Values.{mask_at, put_values, mask_of, values_of}
use Rattle.memory_values.specs.After.{Others, taken_stays, others_stay, plugin_stays}

-- A mask has a bit for each provision: one more takes the next bit, which was 0.
at_most_one : (b : Bool) → yes_no b ≤ 1
at_most_one true = omega arith
at_most_one false = omega arith

pub mask_below : (vs : List Provision) → mask_of vs < 2 ^ length vs
mask_below [] = omega arith
mask_below (v ∷ vs) = omega (arith, at_most_one (is_some v.value), mask_below vs, pow-suc 2 (length vs))

pub mask_none : (vs : List Provision) (q : Port) → mask_of (vs ++ record { port = q; value = None } ∷ []) ≡ mask_of vs
mask_none [] q = refl
mask_none (v ∷ vs) q = rw (mask_none vs q)

pub mask_some : (vs : List Provision) (q : Port) (x : ℕ) → mask_of (vs ++ record { port = q; value = Some x } ∷ []) ≡ mask_of vs + 2 ^ length vs
mask_some [] q x = refl
mask_some (v ∷ vs) q x = rw (mask_some vs q x) (omega (arith, pow-suc 2 (length vs)))

pub values_more : (vs : List Provision) (v : Provision) → values_of (vs ++ v ∷ []) ≡ values_of vs ++ or_else v.value 0 ∷ []
values_more vs v = map-append _ vs (v ∷ [])

-- what is read by a mask and numbers from provision j on
module _ (m : List ℕ) (i : ℕ) where
  read_one : (j : ℕ) (o : Option ℕ) (x : ℕ) → mask_at m i / 2 ^ j ≡ yes_no (is_some o) + 2 * x → word m (i * place_words + values_word + j) ≡ or_else o 0
      → value_at m i j ≡ o
  unfolding value_at
  read_one j None x e f = let b : mask_at m i / 2 ^ j % 2 ≡ 0 = omega arith in rw b
  read_one j (Some v) x e f = let b : mask_at m i / 2 ^ j % 2 ≡ 1 = omega arith in rw (b, f)

  read_all : (j : ℕ) (vs : List Provision) → mask_at m i / 2 ^ j ≡ mask_of vs
      → ((k : ℕ) → k < length vs → word m (i * place_words + values_word + (j + k)) ≡ get_or (values_of vs) k 0)
      → valued m i j (map (λ (v : Provision). v.port) vs) ≡ vs
  read_all j [] e f = refl
  read_all j (v ∷ vs) e f =
      let half : mask_at m i / 2 ^ (j + 1) ≡ mask_of vs = sym (shr-shr (mask_at m i) j 1) ∙ omega (arith, e, at_most_one (is_some v.value)) in
      let start : i * place_words + values_word + (j + 0) ≡ i * place_words + values_word + j = omega arith in
      let one = read_one j v.value (mask_of vs) e (sym (ap (word m) start) ∙ f 0 (omega arith)) in
      let rest = read_all (j + 1) vs half (λ k l. let s : j + 1 + k ≡ j + suc k = omega arith in rw s (f (suc k) (omega arith))) in
      rw (one, rest)

-- The mask and the values are put. On any words, there are as many afterwards.
pub put_length : (m : List ℕ) (i mask : ℕ) (values : List ℕ) → length (put_values m i mask values) ≡ length m
unfolding put_values
put_length m i mask values =
    puts_length (take max_provision_keys values) (set m (i * place_words + mask_word) mask) (i * place_words + values_word) 0
    ∙ length-set m (i * place_words + mask_word) mask

pub put_word : (m : List ℕ) (i mask : ℕ) (values : List ℕ) → Others m (put_values m i mask values) i
unfolding put_values
put_word m i mask values n a =
    puts_apart (take max_provision_keys values) (set m (i * place_words + mask_word) mask) (i * place_words + values_word) 0 n
    (λ x y. a (omega arith) (omega (arith, length-take max_provision_keys values)))
    ∙ get_or-set_other m (i * place_words + mask_word) n mask 0 (λ e. a (omega arith) (omega arith))

module _ (m : List ℕ) (i : ℕ) (h : i < places) (size : length m ≡ memory_words) where
  module _ (mask : ℕ) (values : List ℕ) where
    abbrev m' : List ℕ
    m' = put_values m i mask values

    put_size : length m' ≡ memory_words
    put_size = put_length m i mask values ∙ size

    pub put_taken : (k : ℕ) → taken (put_values m i mask values) k ≡ taken m k
    put_taken k = taken_stays m m' i h size put_size (put_word m i mask values) k

    pub put_elsewhere : (k : ℕ) → k < places → k ≢ i → plugin_at (put_values m i mask values) k ≡ plugin_at m k
    put_elsewhere k u d = others_stay m m' i h size put_size (put_word m i mask values) k u d

    new_mask : mask_at m' i ≡ mask
    unfolding put_values
    new_mask =
        puts_before (take max_provision_keys values) (set m (i * place_words + mask_word) mask) (i * place_words + values_word) 0 (i * place_words + mask_word)
        (omega arith)
        ∙ get_or-set_same m (i * place_words + mask_word) mask 0 (omega arith)

    new_value : (k : ℕ) → k < length values → length values ≤ max_provision_keys → word m' (i * place_words + values_word + (0 + k)) ≡ get_or values k 0
    unfolding put_values
    new_value k l f =
        let all : take max_provision_keys values ≡ values = take_all max_provision_keys values f in
        rw all (puts_same values (set m (i * place_words + mask_word) mask) (i * place_words + values_word) 0 k l
        (omega (arith, length-set m (i * place_words + mask_word) mask)))

  -- Of as many provisions as the place has, with its ports.
  pub put_plugin : (vs : List Provision) → length vs ≤ max_provision_keys → map (λ (v : Provision). v.port) vs ≡ pairs (prov_part m i)
      → plugin_at (put_values m i (mask_of vs) (values_of vs)) i ≡ with_provisions vs (plugin_at m i)
  put_plugin vs few ports =
      let mask = mask_of vs in
      let values = values_of vs in
      let count : length values ≡ length vs = length-map vs (λ (v : Provision). or_else v.value 0) in
      let whole : mask_at (m' mask values) i / 2 ^ 0 ≡ mask_of vs = omega (arith, new_mask mask values) in
      let read = read_all (m' mask values) i 0 vs whole (λ k l. new_value mask values k (omega arith) (omega arith)) in
      plugin_stays m (m' mask values) i h size (put_size mask values) (put_word m i mask values)
      ∙ ap (λ (ws : List Provision). with_provisions ws (plugin_at m i)) (ap (valued (m' mask values) i 0) (sym ports) ∙ read)
