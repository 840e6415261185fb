-- Words are numbers of at most 2^64 − 1, so what they say has a text, and that is short.
use Prim.Native.Nat.{ℕ, zero, suc, ◌+◌, ◌*◌, ◌/◌, ◌%◌, ◌^◌, ◌≤◌}
use Prim.Native.String.{String}
use Rattle.std.proofs.Common.{arith, inl, inr, length-take, length-drop}
use Rattle.std.specs.Prelude.{◌≡◌, Bool, true, false, List, [], ◌∷◌, eqb, length, get_or, take, drop, Some, None}
use Rattle.std.proofs.Math.Path.{refl, subst}
use Rattle.rules.specs.Basics.{last, pick}
use Rattle.rules.specs.Holds.{Plugin, held, plugins, count, rows_in_use}
use Rattle.rules_laws.specs.Laws.Members.{In}
use Rattle.rules_types.specs.declared.Edition.TheVariants.{First, Second}
use Rattle.rules.specs.Ports.{pairs, edition_of, realm_list}
use Rattle.rules.specs.Text.Values.{key_realm, key_realm_value, root_and_queued, edition_and_default}
use Rattle.rules.specs.Text.{block, text, said, text_of}
use Rattle.text_form.specs.Forms.{FitAll}
use Rattle.text_form.specs.Lines.{line, number_or_none}
use Rattle.text_laws.specs.Fit.{text_fits}
use Rattle.text_laws.specs.Sizes.{Lists, any_text, text_most, rows_most, held_most}
use Rattle.memory.specs.Layout.{word, taken, start_at, deps_at, provs_at, realms_at, row_word, anchor_word, part, prov_part, realm_part, dep_part, place_words, mask_word}
use Rattle.memory.specs.Layout.{values_word, id_word, tag_word, parent_word, generation_word, revision_word, payload_word, root_word, root_revision_word}
use Rattle.memory.specs.Layout.{root_argument_word, edition_word, row_words}
use Rattle.memory.specs.View.{parent_of, root_of, life_at, decoded, value_at, valued, plugin_at, place_at, places_from, view}
use Rattle.ports.specs.Places.{length_pairs}
use Rattle.memory_lists.specs.Listed.{valued_length}
use Rattle.text_length.specs.Few.{few_realms, few_deps}

-- Every word is a number of at most 2^64 − 1.
abbrev pub Small : List ℕ → Type 0
Small l = (i : ℕ) → get_or l i 0 ≤ last

small_take : (n : ℕ) (l : List ℕ) → Small l → Small (take n l)
small_take zero l h i = omega arith
small_take (suc n) [] h i = h i
small_take (suc n) (x ∷ l) h zero = h 0
small_take (suc n) (x ∷ l) h (suc i) = small_take n l (λ k. h (suc k)) i

small_drop : (n : ℕ) (l : List ℕ) → Small l → Small (drop n l)
small_drop zero l h = h
small_drop (suc n) [] h = h
small_drop (suc n) (x ∷ l) h = small_drop n l (λ k. h (suc k))

small_part : (m : List ℕ) (from n : ℕ) → Small m → Small (part m from n)
small_part m from n h = small_take n (drop from m) (small_drop from m h)

-- What is true of the plugin of each place is true of each registered one.
module _ (m : List ℕ) (P : Plugin → Type 0) (all : (i : ℕ) → P (plugin_at m i)) where
  held_all : (n i : ℕ) (p : Plugin) → In p (held (places_from n m i)) → P p
  unfolding places_from place_at
  held_all zero i p w = absurd w
  held_all (suc n) i p w = go (taken m i) (held_all n (i + 1) p) w
    where
      here : {q : Plugin} → q ≡ p → P q → P p
      here e x = subst P e x

      go : (b : Bool) → (In p (held (places_from n m (i + 1))) → P p) → In p (held (pick b (Some (plugin_at m i)) None ∷ places_from n m (i + 1))) → P p
      go true more (inl e) = here e (all i)
      go true more (inr v) = more v
      go false more v = more v

  pub view_all : (p : Plugin) → In p (plugins (view m)) → P p
  unfolding view
  view_all p w = held_all 32 0 p w

-- The plugin of each place fits its lines.
ports_fit_lem : (key : String) (l : List ℕ) → Small l → FitAll (line key key_realm) (pairs l)
ports_fit_lem key [] h = tt
ports_fit_lem key (k ∷ []) h = tt
ports_fit_lem key (k ∷ r ∷ l) h = ((h 0, h 1), ports_fit_lem key l (λ i. h (suc (suc i))))

option_fits : (b : Bool) (n : ℕ) → n ≤ last → number_or_none.Fits (pick b (Some n) None)
option_fits true n h = h
option_fits false n h = tt

parent_fits : (tag id : ℕ) → id ≤ last → number_or_none.Fits (parent_of tag id)
parent_fits zero id h = tt
parent_fits (suc tag) id h = h

root_fits : (tag v a : ℕ) → v ≤ last → a ≤ last → root_and_queued.Fits (root_of tag v a)
root_fits zero v a h k = tt
root_fits (suc zero) v a h k = (h, k)
root_fits (suc (suc tag)) v a h k = tt

edition_fits : (n d : ℕ) → d ≤ last → edition_and_default.Fits (edition_of n d)
edition_fits n d h = go (eqb n 2)
  where
    go : (b : Bool) → edition_and_default.Fits (pick b (Second d) First)
    go true = h
    go false = tt

module _ (m : List ℕ) (h : Small m) where
  value_fits : (i j : ℕ) → number_or_none.Fits (value_at m i j)
  unfolding value_at
  value_fits i j = option_fits (eqb (word m (i * place_words + mask_word) / 2 ^ j % 2) 1) (word m (i * place_words + values_word + j))
      (h (i * place_words + values_word + j))

  provisions_fit : (i j : ℕ) (l : List ℕ) → Small l → FitAll (line "prov" key_realm_value) (valued m i j (pairs l))
  provisions_fit i j [] s = tt
  provisions_fit i j (k ∷ []) s = tt
  provisions_fit i j (k ∷ r ∷ l) s = ((s 0, (s 1, value_fits i j)), provisions_fit i (j + 1) l (λ n. s (suc (suc n))))

module _ (m : List ℕ) (i : ℕ) where
  few_provs : length (valued m i 0 (pairs (prov_part m i))) ≤ 15
  few_provs = rw (valued_length m i 0 (pairs (prov_part m i)), length_pairs (prov_part m i)) (simp (length-take, length-drop) (omega arith))

  lists_few : Lists (plugin_at m i)
  unfolding plugin_at realm_list
  lists_few = record { realm_rows_lem = few_realms m i; dependencies = few_deps m i; provisions = few_provs }

  small_list : Small m → Small (realm_part m i)
  small_list h = small_part m (i * place_words + edition_word) ((realms_at m i + 1) * row_words) h

  plugin_fits : Small m → block.Fits (plugin_at m i)
  unfolding plugin_at life_at decoded realm_list
  plugin_fits h = (
    h (i * place_words + id_word),
    (
      parent_fits (word m (i * place_words + tag_word)) (word m (i * place_words + parent_word)) (h (i * place_words + parent_word)),
      (
        tt,
        (
          tt,
          (
            h (i * place_words + generation_word),
            (
              h (i * place_words + revision_word),
              (
                h (i * place_words + payload_word),
                (
                  root_fits (word m (i * place_words + root_word)) (word m (i * place_words + root_revision_word)) (word m (i * place_words + root_argument_word))
                      (h (i * place_words + root_revision_word)) (h (i * place_words + root_argument_word)),
                  (
                    (h (anchor_word m i), h (anchor_word m i + 1)),
                    (
                      (
                        edition_fits (get_or (realm_part m i) 0 0) (get_or (realm_part m i) 1 0) (small_list h 1),
                        (omega (arith, few_realms m i), ports_fit_lem "realm" (drop 2 (realm_part m i)) (small_drop 2 (realm_part m i) (small_list h))),
                      ),
                      (
                        (omega (arith, few_deps m i), ports_fit_lem "dep" (dep_part m i) (small_part m (row_word (start_at m i)) (deps_at m i * 2) h)),
                        (omega (arith, few_provs), provisions_fit m h i 0 (prov_part m i) (small_part m (anchor_word m i + 2) (provs_at m i * 2) h)),
                      ),
                    ),
                  ),
                ),
              ),
            ),
          ),
        ),
      ),
    ),
  )

-- On any words there are no more plugins and rows than this.
module _ (m : List ℕ) where
  all_places : length (view m).places ≡ 32
  unfolding view places_from
  all_places = refl

  pub few_plugins : count (view m) ≤ 32
  unfolding count
  few_plugins = omega (arith, held_most (view m).places, all_places)

  pub few_rows : rows_in_use (view m) ≤ 2048
  unfolding rows_in_use
  few_rows = omega (arith, rows_most (plugins (view m)) (view_all m Lists (lists_few m)), held_most (view m).places, all_places)

-- A registry's words fit its text, which is no longer than this.
module _ (m : List ℕ) (h : Small m) where
  pub words_fit : text.Fits (said (view m))
  unfolding view places_from
  words_fit = text_fits (view m) (record {
    domain = h 0;
    first = h 1;
    next = h 2;
    places = omega arith;
    plugins = view_all m (λ p. block.Fits p) (λ i. plugin_fits m i h);
  })

  pub words_text : length (text_of (view m)) ≤ 140334
  unfolding view places_from
  words_text = any_text (view m) words_fit (view_all m Lists (lists_few m)) (omega arith)

  pub words_most : length (text_of (view m)) ≤ 110 + 1438 * count (view m) + 46 * rows_in_use (view m)
  words_most = text_most (view m) words_fit (view_all m Lists (lists_few m))
