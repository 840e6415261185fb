-- A new plugin in a free place, with its rows behind all others: what that does to the words, that every other place
-- reads as before, and that the new one reads as what was written.
use Rattle.std.specs.Prelude.{ℕ, ◌+◌, ◌*◌, ◌<◌, ◌≤◌, ◌%◌, ◌≡◌, refl, Bool, true, false, ◌≢◌, List, [], ◌∷◌, map, eqb, length, get_or, drop, None}
use native.Mathlib.Omega.{arith}
use Rattle.std.proofs.Math.Nat.{zero-div}
use Rattle.std.proofs.Math.Path.{sym, ap}
use Rattle.std.proofs.Common.{◌∙◌, length-take, length-drop, get_or-take, get_or-drop, ext_get_or, eqb-true}
use Rattle.std.proofs.lemmas.Bool.{eqb-false}
use Rattle.rules.specs.Basics.{pick}
use Rattle.rules.specs.Holds.{Plugin, never_begun}
use Rattle.rules_types.specs.Generations.{generation_of}
use Rattle.rules_types.specs.declared.Port.{Port}
use Rattle.rules_types.specs.declared.Phase.TheVariants.{Idle}
use Rattle.rules_types.specs.declared.Root.TheVariants.{Unissued}
use Rattle.rules.specs.Ports.{pairs, realm_list}
use Rattle.rules.specs.Registration.{unoffered}
use Rattle.rules.specs.Limits.{max_rows, max_provision_keys, max_dependencies, max_realm_rows}
use Rattle.memory.specs.Layout.{word, taken, id_at, start_at, deps_at, provs_at, realms_at, part, row_word, dep_part, prov_part, realm_part, memory_words, place_words}
use Rattle.memory.specs.Layout.{places, rows_start, id_word, tag_word, parent_word, revision_word, payload_word, phase_word, retired_word, generation_word, root_word}
use Rattle.memory.specs.Layout.{root_revision_word, root_argument_word, first_row_word, dependencies_word, provisions_word, realms_word, mask_word, edition_word}
use Rattle.memory.specs.Layout.{place_end, row_words}
use Rattle.memory.specs.View.{parent_of, life_at, decoded, value_at, valued, plugin_at}
use Rattle.memory.specs.Frames.{Kept, with_life, plugin_kept}
use Rattle.memory.specs.Stores.{kept_frame}
use Rattle.memory_rows.specs.Tiles.{sum_but, share, tiled_added}
use Rattle.memory_places.specs.Rows.{rows_at}
use Rattle.memory_places.specs.Taken.{taken_below}
use Rattle.memory_rows.specs.Dense.{start_word, used, Dense, start_is}

-- What is written of a new plugin: d dependencies, an anchor and c provisions, and a realm list with its edition, its default and z rows.
pub record Newcomer : Type 0 where
  pub id : ℕ
  pub tag : ℕ
  pub parent : ℕ
  pub payload : ℕ
  pub d : ℕ
  pub dependencies : List ℕ
  pub anchor : Port
  pub c : ℕ
  pub provisions : List ℕ
  pub edition : ℕ
  pub default : ℕ
  pub z : ℕ
  pub realms : List ℕ

-- its realm list's numbers
abbrev pub list_words : Newcomer → List ℕ
list_words n = n.edition ∷ n.default ∷ n.realms

-- as the rules have it
abbrev pub new_plugin_of : Newcomer → Plugin
new_plugin_of n = record {
  id = n.id;
  parent = parent_of n.tag n.parent;
  anchor = n.anchor;
  realms = realm_list (list_words n);
  dependencies = pairs n.dependencies;
  provisions = map unoffered (pairs n.provisions);
  revision = 0;
  payload = n.payload;
  phase = Idle;
  retired = false;
  generation = never_begun;
  root = Unissued;
}

-- it fits its room
pub record Sized (m : List ℕ) (n : Newcomer) : Type 0 where
  pub dependencies : length n.dependencies ≡ n.d * row_words
  pub provisions : length n.provisions ≡ n.c * row_words
  pub realms : length n.realms ≡ n.z * row_words
  pub few_dependencies : n.d ≤ max_dependencies
  pub few_provisions : n.c ≤ max_provision_keys
  pub few_realms : n.z ≤ max_realm_rows
  pub room : used m + (n.d + n.c + 1) ≤ max_rows

-- what an addition at place p does to the words
pub record Adds (m m' : List ℕ) (p : ℕ) (n : Newcomer) : Type 0 where
  pub size : length m' ≡ length m
  pub comes : taken m' p ≡ true
  pub kept : (j : ℕ) → j ≢ p → taken m' j ≡ taken m j
  pub words : (j k : ℕ) → j < places → j ≢ p → id_word ≤ k → k < place_end → word m' (j * place_words + k) ≡ word m (j * place_words + k)
  pub rows : (k : ℕ) → k < used m * row_words → word m' (rows_start + k) ≡ word m (rows_start + k)
  pub id : word m' (p * place_words + id_word) ≡ n.id
  pub tag : word m' (p * place_words + tag_word) ≡ n.tag
  pub parent : word m' (p * place_words + parent_word) ≡ n.parent
  pub revision : word m' (p * place_words + revision_word) ≡ 0
  pub payload : word m' (p * place_words + payload_word) ≡ n.payload
  pub phase : word m' (p * place_words + phase_word) ≡ 0
  pub retired : word m' (p * place_words + retired_word) ≡ 0
  pub generation : word m' (p * place_words + generation_word) ≡ never_begun
  pub root : word m' (p * place_words + root_word) ≡ 0
  pub start : start_word m' p ≡ used m
  pub d : word m' (p * place_words + dependencies_word) ≡ n.d
  pub c : word m' (p * place_words + provisions_word) ≡ n.c
  pub z : word m' (p * place_words + realms_word) ≡ n.z
  pub mask : word m' (p * place_words + mask_word) ≡ 0
  pub realms : (k : ℕ) → k < (n.z + 1) * row_words → word m' (p * place_words + edition_word + k) ≡ get_or (list_words n) k 0
  pub dependencies : (k : ℕ) → k < n.d * row_words → word m' (row_word (used m) + k) ≡ get_or n.dependencies k 0
  pub anchor_key : word m' (row_word (used m + n.d)) ≡ n.anchor.key
  pub anchor_realm : word m' (row_word (used m + n.d) + 1) ≡ n.anchor.realm
  pub provisions : (k : ℕ) → k < n.c * row_words → word m' (row_word (used m + n.d) + row_words + k) ≡ get_or n.provisions k 0

-- a part that holds a list
part_list : (m ws : List ℕ) (a n : ℕ) → length ws ≡ n → a + n ≤ length m → ((k : ℕ) → k < n → word m (a + k) ≡ get_or ws k 0) → part m a n ≡ ws
part_list m ws a n e h f =
    let whole : length (part m a n) ≡ n = simp (length-take, length-drop) (omega arith) in
    ext_get_or 0 (part m a n) ws (whole ∙ sym e) λ i l.
    let k : i < n = omega (arith, whole) in
    (get_or-take n (drop a m) i 0 k ∙ get_or-drop a m i 0) ∙ f i k

value_none : (m : List ℕ) (i j : ℕ) → word m (i * place_words + mask_word) ≡ 0 → value_at m i j ≡ None
unfolding value_at
value_none m i j e = rw (e, zero-div)

valued_none : (m : List ℕ) (i : ℕ) → word m (i * place_words + mask_word) ≡ 0 → (qs : List Port) (j : ℕ) → valued m i j qs ≡ map unoffered qs
valued_none m i e [] j = refl
valued_none m i e (q ∷ qs) j = rw (value_none m i j e, valued_none m i e qs (j + 1))

module _ (m m' : List ℕ) (p : ℕ) (n : Newcomer) (h : p < places) (free : taken m p ≡ false) (new : (j : ℕ) → taken m j ≡ true → id_at m j ≢ n.id)
    (dense : Dense m) (sized : Sized m n) (r : Adds m m' p n) where
  size' : length m' ≡ memory_words
  size' = r.size ∙ dense.size

  some_rows : (i : ℕ) → 1 ≤ rows_at m i
  some_rows i = omega arith

  deps_new : deps_at m' p ≡ n.d
  deps_new = rw r.d (omega (arith, sized.few_dependencies))

  provs_new : provs_at m' p ≡ n.c
  provs_new = rw r.c (omega (arith, sized.few_provisions))

  realms_new : realms_at m' p ≡ n.z
  realms_new = rw r.z (omega (arith, sized.few_realms))

  start_new : start_at m' p ≡ used m
  start_new = rw r.start (omega (arith, dense.room))

  counts : (j : ℕ) → j < places → j ≢ p → rows_at m' j ≡ rows_at m j
  counts j k d = rw (r.words j dependencies_word k d (omega arith) (omega arith), r.words j provisions_word k d (omega arith) (omega arith))

  end : used m' ≡ used m + rows_at m' p
  end =
      let a : share (taken m') (rows_at m') p ≡ rows_at m' p = rw r.comes in
      let b : share (taken m) (rows_at m) p ≡ 0 = rw free in
      omega (
        arith,
        sum_but places (share (taken m') (rows_at m')) (share (taken m) (rows_at m)) p 0
            (λ j k d. rw (r.kept j d) (ap (λ (x : ℕ). pick (taken m j) x 0) (counts j (omega arith) d))) (omega arith) (omega arith),
      )

  -- the new place, or one that was taken before
  data Origin (j : ℕ) : Type 0 where
    newcomer : j ≡ p → Origin j
    settled : j ≢ p → taken m j ≡ true → Origin j

  origin : (j : ℕ) → taken m' j ≡ true → Origin j
  origin j t = cases (eqb j p) refl
    where
      cases : (b : Bool) → eqb j p ≡ b → Origin j
      cases true e = newcomer (eqb-true j p e)
      cases false e = settled (eqb-false j p e) (sym (r.kept j (eqb-false j p e)) ∙ t)

  old_id : (j : ℕ) → j ≢ p → taken m j ≡ true → id_at m' j ≡ id_at m j
  old_id j d t = r.words j id_word (taken_below m j t) d (omega arith) (omega arith)

  alone : (i j : ℕ) → Origin i → Origin j → id_at m' i ≡ id_at m' j → i ≡ j
  alone i j (newcomer s) (newcomer t) e = s ∙ sym t
  alone i j (newcomer s) (settled d t) e = absurd (new j t (sym (old_id j d t) ∙ sym e ∙ ap (id_at m') s ∙ r.id))
  alone i j (settled d t) (newcomer s) e = absurd (new i t (sym (old_id i d t) ∙ e ∙ ap (id_at m') s ∙ r.id))
  alone i j (settled d s) (settled f t) e = dense.alone i j s t (sym (old_id i d s) ∙ e ∙ old_id j f t)

  limit : (k x : ℕ) → id_word ≤ k → k < place_end → word m' (p * place_words + k) ≤ x → ((j : ℕ) → taken m j ≡ true → word m (j * place_words + k) ≤ x)
      → (j : ℕ) → Origin j → word m' (j * place_words + k) ≤ x
  limit k x a b here there j (newcomer s) = rw s here
  limit k x a b here there j (settled d t) = rw (r.words j k (taken_below m j t) d a b) (there j t)

  pub added_dense : Dense m'
  added_dense = record {
    size = size';
    alone = λ i j s t e. alone i j (origin i s) (origin j t) e;
    few_dependencies = λ j t. limit dependencies_word max_dependencies (omega arith) (omega arith) (omega (arith, r.d, sized.few_dependencies))
        dense.few_dependencies j (origin j t);
    few_provisions = λ j t. limit provisions_word max_provision_keys (omega arith) (omega arith) (omega (arith, r.c, sized.few_provisions))
        dense.few_provisions j (origin j t);
    few_realms = λ j t. limit realms_word max_realm_rows (omega arith) (omega arith) (omega (arith, r.z, sized.few_realms)) dense.few_realms j (origin j t);
    tiled = tiled_added (taken m) (taken m') (start_word m) (start_word m') (rows_at m) (rows_at m') (used m) (used m') p dense.tiled h some_rows
        free r.comes r.kept counts (λ j k d. r.words j first_row_word k d (omega arith) (omega arith)) r.start end;
    room = omega (arith, end, deps_new, provs_new, sized.room);
  }

  life_kept : (j : ℕ) → j < places → j ≢ p → life_at m' j ≡ life_at m j
  unfolding life_at
  life_kept j k d = ap decoded (λ x. record {
    revision = r.words j revision_word k d (omega arith) (omega arith) x;
    payload = r.words j payload_word k d (omega arith) (omega arith) x;
    phase = r.words j phase_word k d (omega arith) (omega arith) x;
    retired = r.words j retired_word k d (omega arith) (omega arith) x;
    generation = r.words j generation_word k d (omega arith) (omega arith) x;
    root = r.words j root_word k d (omega arith) (omega arith) x;
    root_revision = r.words j root_revision_word k d (omega arith) (omega arith) x;
    root_argument = r.words j root_argument_word k d (omega arith) (omega arith) x;
  })

  -- every other place reads as before
  pub added_other : (j : ℕ) → j ≢ p → taken m j ≡ true → plugin_at m' j ≡ plugin_at m j
  unfolding plugin_at
  added_other j d t =
      let k = taken_below m j t in
      let s = start_is m dense j t in
      let b = dense.tiled.below j k t in
      let w : Kept m m' j = kept_frame m m' j k dense.size size'
      (λ i a c. r.words j i k d a (omega arith))
      (λ i a c. r.words j i k d (omega arith) c)
      (λ i u. ap (λ x. word m' (row_word (x % max_rows) + i)) (r.words j first_row_word k d (omega arith) (omega arith))
      ∙ (let e : row_word (start_at m j) + i ≡ rows_start + (start_at m j * row_words + i) = omega arith in
      ap (word m') e ∙ r.rows (start_at m j * row_words + i) (omega arith) ∙ sym (ap (word m) e))) in
      plugin_kept m m' j w ∙ ap (with_life (plugin_at m j)) (life_kept j k d)

  deps_part : dep_part m' p ≡ n.dependencies
  deps_part =
      rw (start_new, deps_new)
      (part_list m' n.dependencies (row_word (used m)) (n.d * row_words) sized.dependencies (omega (arith, size', dense.room, sized.few_dependencies))
      r.dependencies)

  provs_part : prov_part m' p ≡ n.provisions
  provs_part =
      rw (start_new, deps_new, provs_new)
      (part_list m' n.provisions (row_word (used m + n.d) + row_words) (n.c * row_words) sized.provisions (omega (arith, size', sized.room))
      r.provisions)

  realms_part : realm_part m' p ≡ list_words n
  realms_part =
      rw realms_new
      (part_list m' (list_words n) (p * place_words + edition_word) ((n.z + 1) * row_words) (omega (arith, sized.realms))
      (omega (arith, size', sized.few_realms)) r.realms)

  life_new : life_at m' p ≡ record { revision = 0; payload = n.payload; phase = Idle; retired = false; generation = generation_of never_begun; root = Unissued }
  unfolding life_at decoded
  life_new = rw (r.revision, r.payload, r.phase, r.retired, r.generation, r.root)

  -- the new place reads as what was written
  pub added_plugin : plugin_at m' p ≡ new_plugin_of n
  unfolding plugin_at
  added_plugin =
      rw (r.id, r.tag, r.parent, life_new, deps_part, realms_part, provs_part, valued_none m' p r.mask (pairs n.provisions) 0)
      (rw (start_new, deps_new) (rw (r.anchor_key, r.anchor_realm)))
