-- The registry after a life, or its revision and payload alone, is stored.
use Prim.Native.Nat.{ℕ, zero, suc, ◌+◌, ◌*◌, ◌<◌, ◌≤◌, ◌%◌, min}
use Rattle.std.proofs.Common.{arith, sym, ◌∙◌}
use Rattle.std.specs.Prelude.{◌≡◌, ◌≢◌, true, List, map, eqb, length}
use Rattle.std.proofs.Math.Path.{refl, ap, subst}
use borrow.Author.Tests.{eq-eqb, ne_eqb, eqb-true, eqb-false}
use Rattle.rules.specs.Holds.{Plugin}
use Rattle.rules.specs.Outcomes.{stores, after, stored_at}
use Rattle.rules_laws.specs.Laws.Tests.{by_test}
use Rattle.rules.specs.Limits.{max_rows, max_provision_keys, max_dependencies, max_realm_rows}
use Rattle.memory.specs.Layout.{word, part, taken, id_at, start_at, deps_at, provs_at, realms_at, row_word, anchor_word, memory_words, place_words, places, id_word}
use Rattle.memory.specs.Layout.{tag_word, parent_word, revision_word, first_row_word, dependencies_word, provisions_word, realms_word, mask_word, values_word}
use Rattle.memory.specs.Layout.{edition_word, place_end, row_words, domain_word, first_word, next_word, occupancy_word}
use Rattle.memory.specs.View.{life_at, plugin_at, place_at, places_from, view}
use Rattle.memory.specs.Writes.{put_life, renewed_at}
use Rattle.memory.specs.Lives.{renewed_life}
use Rattle.memory.specs.Frames.{part_same, Kept, with_life, plugin_kept, OnlyLife, life_other, life_only, life_put, renewed_only, life_renewed}
use Rattle.memory.specs.declared.Life.{Life}

-- An id stands at one taken place only.
abbrev pub Alone : List ℕ → Type 0
Alone m = (i j : ℕ) → taken m i ≡ true → taken m j ≡ true → id_at m i ≡ id_at m j → i ≡ j

id_of_lem : (m : List ℕ) (i : ℕ) → (plugin_at m i).id ≡ id_at m i
unfolding plugin_at
id_of_lem m i = refl

-- A place is kept where its own words but for its life and its first row are, and its rows, wherever they stand.
module _ (m m' : List ℕ) (j : ℕ) (h : j < places) (l : length m ≡ memory_words) (l' : length m' ≡ memory_words)
    (front : (k : ℕ) → id_word ≤ k → k < revision_word → word m' (j * place_words + k) ≡ word m (j * place_words + k))
    (back : (k : ℕ) → dependencies_word ≤ k → k < place_end → word m' (j * place_words + k) ≡ word m (j * place_words + k))
    (rows : (k : ℕ) → k < (deps_at m j + 1 + provs_at m j) * row_words → word m' (row_word (start_at m' j) + k) ≡ word m (row_word (start_at m j) + k)) where
  deps_kept : deps_at m' j ≡ deps_at m j
  deps_kept = ap (λ x. min x max_dependencies) (back dependencies_word (omega arith) (omega arith))

  provs_kept : provs_at m' j ≡ provs_at m j
  provs_kept = ap (λ x. x % (max_provision_keys + 1)) (back provisions_word (omega arith) (omega arith))

  realms_kept : realms_at m' j ≡ realms_at m j
  realms_kept = ap (λ x. min x max_realm_rows) (back realms_word (omega arith) (omega arith))

  -- the k-th word behind the dependencies
  behind : (k : ℕ) → k < (1 + provs_at m j) * row_words → word m' (anchor_word m' j + k) ≡ word m (anchor_word m j + k)
  behind k u =
      let e : anchor_word m' j + k ≡ row_word (start_at m' j) + (deps_at m j * row_words + k) = omega (arith, deps_kept) in
      let f : anchor_word m j + k ≡ row_word (start_at m j) + (deps_at m j * row_words + k) = omega arith in
      ap (word m') e ∙ rows (deps_at m j * row_words + k) (omega arith) ∙ sym (ap (word m) f)

  pub kept_frame : Kept m m' j
  kept_frame = record {
    id = front id_word (omega arith) (omega arith);
    tag = front tag_word (omega arith) (omega arith);
    parent = front parent_word (omega arith) (omega arith);
    anchor_key =
        let e : anchor_word m' j + 0 ≡ anchor_word m' j = omega arith in
        let f : anchor_word m j + 0 ≡ anchor_word m j = omega arith in
        sym (ap (word m') e) ∙ behind 0 (omega arith) ∙ ap (word m) f;
    anchor_realm = behind 1 (omega arith);
    realms = rw realms_kept (part_same m m' (j * place_words + edition_word) (j * place_words + edition_word) ((realms_at m j + 1) * row_words) (omega arith)
        (omega arith)
        (λ k u. let e : j * place_words + edition_word + k ≡ j * place_words + (edition_word + k) = omega arith in
        rw e (back (edition_word + k) (omega arith) (omega arith))));
    dependencies =
        ap (λ n. part m' (row_word (start_at m' j)) (n * row_words)) deps_kept
        ∙ part_same m m' (row_word (start_at m' j)) (row_word (start_at m j)) (deps_at m j * row_words) (omega arith) (omega arith) (λ k u. rows k (omega arith));
    provisions =
        ap (λ n. part m' (anchor_word m' j + row_words) (n * row_words)) provs_kept
        ∙ part_same m m' (anchor_word m' j + row_words) (anchor_word m j + row_words) (provs_at m j * row_words) (omega (arith, deps_kept)) (omega arith)
        (λ k u. let e : anchor_word m' j + row_words + k ≡ anchor_word m' j + (2 + k) = omega arith in
        let f : anchor_word m j + row_words + k ≡ anchor_word m j + (2 + k) = omega arith in
        ap (word m') e ∙ behind (2 + k) (omega arith) ∙ sym (ap (word m) f));
    mask = back mask_word (omega arith) (omega arith);
    values = λ k u. let e : j * place_words + values_word + k ≡ j * place_words + (values_word + k) = omega arith in
        rw e (back (values_word + k) (omega arith) (omega arith));
  }

-- Where no words change but those of one place's life, that life is all that is stored.
module _ (m m' : List ℕ) (i : ℕ) (o : OnlyLife m m' i) (h : i < places) (size : length m ≡ memory_words) where
  only_kept : (j : ℕ) → j < places → Kept m m' j
  only_kept j k = kept_frame m m' j k size (o.size ∙ size)
      (λ n a b. o.apart (j * place_words + n) (λ c d. omega arith))
      (λ n a b. o.apart (j * place_words + n) (λ c d. omega arith))
      (λ n u. ap (λ w. word m' (row_word (w % max_rows) + n)) (o.apart (j * place_words + first_row_word) (λ c d. omega arith))
      ∙ o.apart (row_word (start_at m j) + n) (λ c d. omega arith))

  only_plugin : plugin_at m' i ≡ with_life (plugin_at m i) (life_at m' i)
  only_plugin = plugin_kept m m' i (only_kept i h)

  only_other : (j : ℕ) → j < places → i ≢ j → plugin_at m' j ≡ plugin_at m j
  unfolding plugin_at
  only_other j k d = plugin_kept m m' j (only_kept j k) ∙ ap (with_life (plugin_at m j)) (life_other m m' i o j d)

  only_taken : (j : ℕ) → taken m' j ≡ taken m j
  unfolding taken
  only_taken j = rw (o.apart occupancy_word (λ c d. omega arith))

  -- place by place, the plugin that changed is stored
  module _ (alone : Alone m) (there : taken m i ≡ true) where
    abbrev new : Plugin
    new = with_life (plugin_at m i) (life_at m' i)

    here : place_at m' i ≡ stored_at new (place_at m i)
    unfolding place_at
    here = rw (only_taken i, there, only_plugin) (rw (eq-eqb (plugin_at m i).id (plugin_at m i).id refl))

    place_put : (j : ℕ) → j < places → place_at m' j ≡ stored_at new (place_at m j)
    unfolding place_at
    place_put j k = by_test (taken m j)
        (λ t. by_test (eqb i j)
        (λ y. subst (λ x. place_at m' x ≡ stored_at new (place_at m x)) (eqb-true i j y) here)
        (λ d. let n = eqb-false i j d in
        rw (only_taken j, t, only_other j k n)
        (rw (ne_eqb (plugin_at m j).id (plugin_at m i).id (λ e. n (sym (alone j i t there (sym (id_of_lem m j) ∙ e ∙ id_of_lem m i))))))))
        (λ f. rw (only_taken j, f))

    places_put : (n j : ℕ) → j + n ≤ places → places_from n m' j ≡ map (stored_at new) (places_from n m j)
    unfolding places_from
    places_put zero j b = refl
    places_put (suc n) j b = let r = places_put n (j + 1) (omega arith) in let e = place_put j (omega arith) in rw (e, r)

    pub only_view : (vs : List ℕ) → view m' ≡ after (view m) (stores (with_life (plugin_at m i) (life_at m' i)) vs)
    unfolding view after
    only_view vs = λ x. record {
      domain = o.apart domain_word (λ c d. omega arith) x;
      first = o.apart first_word (λ c d. omega arith) x;
      next = o.apart next_word (λ c d. omega arith) x;
      places = places_put places 0 (omega arith) x;
    }

module _ (m : List ℕ) (i : ℕ) (l : Life) (h : i < places) (size : length m ≡ memory_words) where
  pub plugin_put : plugin_at (put_life m i l) i ≡ with_life (plugin_at m i) l
  plugin_put = only_plugin m (put_life m i l) i (life_only m i l) h size ∙ ap (with_life (plugin_at m i)) (life_put m i l h size)

  pub plugin_other : (j : ℕ) → j < places → i ≢ j → plugin_at (put_life m i l) j ≡ plugin_at m j
  plugin_other = only_other m (put_life m i l) i (life_only m i l) h size

  pub store_view : Alone m → taken m i ≡ true → (vs : List ℕ) → view (put_life m i l) ≡ after (view m) (stores (with_life (plugin_at m i) l) vs)
  store_view alone there vs =
      only_view m (put_life m i l) i (life_only m i l) h size alone there vs
      ∙ ap (λ x. after (view m) (stores (with_life (plugin_at m i) x) vs)) (life_put m i l h size)

pub renewed_view : (m : List ℕ) (i v w : ℕ) → i < places → length m ≡ memory_words → Alone m → taken m i ≡ true → (vs : List ℕ)
    → view (renewed_at m i v w) ≡ after (view m) (stores (with_life (plugin_at m i) (renewed_life (life_at m i) v w)) vs)
renewed_view m i v w h size alone there vs =
    only_view m (renewed_at m i v w) i (renewed_only m i v w) h size alone there vs
    ∙ ap (λ x. after (view m) (stores (with_life (plugin_at m i) x) vs)) (life_renewed m i v w h size)
