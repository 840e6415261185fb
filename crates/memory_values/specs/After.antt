-- What the words say of the plugins once a value is set, or all of a place's are dropped.
use Rattle.std.specs.Prelude.{ℕ, ◌+◌, ◌*◌, ◌^◌, ◌≤◌, ◌<◌, ◌%◌, min, ◌≡◌, ◌≢◌, false, eqb, length, set, Some, None}
use Rattle.std.proofs.Math.Nat.{zero-div}
use Rattle.std.proofs.Common.{arith, sym, ◌∙◌, length-set, get_or-set_same}
use Rattle.std.proofs.Math.Path.{refl, ap}
use mathlib.Core.List.{List, [], ◌∷◌, map}
use Rattle.std.proofs.Math.Seq.{get_or-set_other}
use borrow.Author.Tests.{eq-eqb, ne_eqb, eqb-true, eqb-false}
use Rattle.rules.specs.Basics.{pick}
use Rattle.rules.specs.Holds.{Provision, same_port, is_in, with_provisions}
use Rattle.rules_types.specs.declared.Port.{Port}
use Rattle.rules.specs.Phases.{dropped}
use Rattle.rules.specs.Ports.{pairs}
use Rattle.rules.specs.Registration.{repeats}
use Rattle.rules.specs.Values.{offered}
use Rattle.rules_laws.specs.Laws.Tests.{by_test, neither}
use Rattle.rules_laws.specs.Laws.Members.{same_port_lem}
use Rattle.rules.specs.Limits.{max_rows, max_provision_keys, max_dependencies, max_realm_rows}
use Rattle.memory.specs.Layout.{word, taken, start_at, deps_at, provs_at, realms_at, row_word, anchor_word, dep_part, prov_part, realm_part, memory_words, place_words}
use Rattle.memory.specs.Layout.{places, rows_start, id_word, tag_word, parent_word, revision_word, payload_word, phase_word, retired_word, generation_word, root_word}
use Rattle.memory.specs.Layout.{root_revision_word, root_argument_word, first_row_word, dependencies_word, provisions_word, realms_word, mask_word, values_word}
use Rattle.memory.specs.Layout.{edition_word, place_end, occupancy_word}
use Rattle.memory.specs.View.{words_at, decoded, life_at, value_at, valued, plugin_at}
use Rattle.memory.specs.Frames.{part_same, plugin_kept, with_life}
use Rattle.memory.specs.Stores.{kept_frame}
use Rattle.memory_lists.specs.Listed.{provided_at}
use Rattle.memory_places.specs.Bits.{set_there, set_others}
use Rattle.memory_values.specs.Values.{mask_at, mask_bit, masked, port_from, with_value}
use Rattle.memory_values.specs.Firsts.{port_least}

-- Only the mask and the values of place i change.
abbrev pub Others : List ℕ → List ℕ → ℕ → Type 0
Others m m' i = (n : ℕ) → (i * place_words + mask_word ≤ n → n < i * place_words + edition_word → ⊥) → word m' n ≡ word m n

module _ (m m' : List ℕ) (i : ℕ) (h : i < places) (l : length m ≡ memory_words) (l' : length m' ≡ memory_words) (same : Others m m' i) where
  words_stay : (k : ℕ) → words_at m' k ≡ words_at m k
  words_stay k = λ x. record {
    revision = same (k * place_words + revision_word) (λ a b. omega arith) x;
    payload = same (k * place_words + payload_word) (λ a b. omega arith) x;
    phase = same (k * place_words + phase_word) (λ a b. omega arith) x;
    retired = same (k * place_words + retired_word) (λ a b. omega arith) x;
    generation = same (k * place_words + generation_word) (λ a b. omega arith) x;
    root = same (k * place_words + root_word) (λ a b. omega arith) x;
    root_revision = same (k * place_words + root_revision_word) (λ a b. omega arith) x;
    root_argument = same (k * place_words + root_argument_word) (λ a b. omega arith) x;
  }

  life_stays : (k : ℕ) → life_at m' k ≡ life_at m k
  unfolding life_at
  life_stays k = ap decoded (words_stay k)

  pub taken_stays : (k : ℕ) → taken m' k ≡ taken m k
  unfolding taken
  taken_stays k = rw (same occupancy_word (λ a b. omega arith))

  start_stays : (k : ℕ) → start_at m' k ≡ start_at m k
  start_stays k = ap (λ x. x % max_rows) (same (k * place_words + first_row_word) (λ a b. omega arith))

  -- every row is behind the places
  row_stays : (n : ℕ) → rows_start ≤ n → word m' n ≡ word m n
  row_stays n u = same n (λ a b. omega arith)

  -- another place
  pub others_stay : (k : ℕ) → k < places → k ≢ i → plugin_at m' k ≡ plugin_at m k
  unfolding plugin_at
  others_stay k u d =
      let apart : (n : ℕ) → id_word ≤ n → n < place_end → word m' (k * place_words + n) ≡ word m (k * place_words + n) =
      λ n a b. same (k * place_words + n) (λ x y. d (omega arith)) in
      plugin_kept m m' k
      (kept_frame m m' k u l l'
      (λ n a b. apart n a (omega arith))
      (λ n a b. apart n (omega arith) b)
      (λ n b. ap (λ s. word m' (row_word s + n)) (start_stays k) ∙ row_stays (row_word (start_at m k) + n) (omega arith)))
      ∙ ap (with_life (plugin_at m k)) (life_stays k)

  -- the place itself
  deps_stay : deps_at m' i ≡ deps_at m i
  deps_stay = ap (λ x. min x max_dependencies) (same (i * place_words + dependencies_word) (λ a b. omega arith))

  provs_stay : provs_at m' i ≡ provs_at m i
  provs_stay = ap (λ x. x % (max_provision_keys + 1)) (same (i * place_words + provisions_word) (λ a b. omega arith))

  realms_stay : realms_at m' i ≡ realms_at m i
  realms_stay = ap (λ x. min x max_realm_rows) (same (i * place_words + realms_word) (λ a b. omega arith))

  dep_part_lem : dep_part m' i ≡ dep_part m i
  dep_part_lem =
      rw (start_stays i, deps_stay)
      (part_same m m' (row_word (start_at m i)) (row_word (start_at m i)) (deps_at m i * 2) (omega arith) (omega arith)
      (λ k u. row_stays (row_word (start_at m i) + k) (omega arith)))

  prov_part_lem : prov_part m' i ≡ prov_part m i
  prov_part_lem =
      rw (start_stays i, deps_stay, provs_stay)
      (part_same m m' (anchor_word m i + 2) (anchor_word m i + 2) (provs_at m i * 2) (omega arith) (omega arith)
      (λ k u. row_stays (anchor_word m i + 2 + k) (omega arith)))

  realm_part_lem : realm_part m' i ≡ realm_part m i
  realm_part_lem =
      rw realms_stay
      (part_same m m' (i * place_words + edition_word) (i * place_words + edition_word) ((realms_at m i + 1) * 2) (omega arith) (omega arith)
      (λ k u. same (i * place_words + edition_word + k) (λ a b. omega arith)))

  anchor_key : word m' (anchor_word m' i) ≡ word m (anchor_word m i)
  anchor_key = rw (start_stays i, deps_stay) (row_stays (anchor_word m i) (omega arith))

  anchor_realm : word m' (anchor_word m' i + 1) ≡ word m (anchor_word m i + 1)
  anchor_realm = rw (start_stays i, deps_stay) (row_stays (anchor_word m i + 1) (omega arith))

  pub plugin_stays : plugin_at m' i ≡ with_provisions (valued m' i 0 (pairs (prov_part m i))) (plugin_at m i)
  unfolding plugin_at
  plugin_stays =
      rw (
        same (i * place_words + id_word) (λ a b. omega arith),
        same (i * place_words + tag_word) (λ a b. omega arith),
        same (i * place_words + parent_word) (λ a b. omega arith),
        anchor_key,
        anchor_realm,
        realm_part_lem,
        dep_part_lem,
        prov_part_lem,
        life_stays i,
      )

  -- and its provisions, if each value is what a change of the former provisions says
  provisions_stay : (f : List Provision → List Provision) → valued m' i 0 (pairs (prov_part m i)) ≡ f (valued m i 0 (pairs (prov_part m i)))
      → plugin_at m' i ≡ with_provisions (f (plugin_at m i).provisions) (plugin_at m i)
  unfolding plugin_at
  provisions_stay f e = plugin_stays ∙ ap (λ (vs : List Provision). with_provisions vs (plugin_at m i)) e

-- The provisions with a value at place j, counted from k.
unfoldable pub given_at : ℕ → ℕ → ℕ → List Provision → List Provision
given_at j v k [] = []
given_at j v k (w ∷ ws) = record { port = w.port; value = pick (eqb k j) (Some v) w.value } ∷ given_at j v (k + 1) ws

given_past : (j v k : ℕ) (ws : List Provision) → j < k → given_at j v k ws ≡ ws
unfolding given_at
given_past j v k [] h = refl
given_past j v k (w ∷ ws) h =
    let n = ne_eqb k j (λ e. omega arith) in
    let r = given_past j v (k + 1) ws (omega arith) in
    rw (n, r)

abbrev ports_of : List Provision → List Port
ports_of ws = map (λ (w : Provision). w.port) ws

not_offered : (q : Port) (v : ℕ) (ws : List Provision) → is_in q (ports_of ws) ≡ false → map (offered q v) ws ≡ ws
not_offered q v [] e = refl
not_offered q v (w ∷ ws) e =
    let n = neither (same_port q w.port) (is_in q (ports_of ws)) e in
    let r = not_offered q v ws n.1 in
    rw (n.0, r)

-- Of distinct ports, the one at place j is the only one offered.
given_offered : (q : Port) (j v k : ℕ) (ws : List Provision) → repeats (ports_of ws) ≡ false → port_from k q (ports_of ws) ≡ Some j
    → given_at j v k ws ≡ map (offered q v) ws
unfolding given_at port_from
given_offered q j v k [] d e = refl
given_offered q j v k (w ∷ ws) d e =
    let n = neither (is_in w.port (ports_of ws)) (repeats (ports_of ws)) d in
    let r = given_offered q j v (k + 1) ws n.1 in
    by_test (same_port q w.port)
    (λ t. let x : k ≡ j = cc (rw t at e) in
    let y : is_in q (ports_of ws) ≡ false = ap (λ (p : Port). is_in p (ports_of ws)) (sym (same_port_lem q w.port t)) ∙ n.0 in
    let z = given_past j v (k + 1) ws (omega arith) ∙ sym (not_offered q v ws y) in
    rw (t, eq-eqb k j x, z))
    (λ f. let g : port_from (k + 1) q (ports_of ws) ≡ Some j = rw f at e in
    let x = ne_eqb k j (λ y. omega (arith, port_least (k + 1) q (ports_of ws) j g)) in
    rw (f, x, r g))

-- The bit of a value that is none is 0.
pub none_free : (m : List ℕ) (i j : ℕ) → value_at m i j ≡ None → mask_bit m i j ≡ 0
unfolding value_at
none_free m i j e = by_test (eqb (mask_bit m i j) 1)
    (λ t. let z : Some (word m (i * place_words + values_word + j)) ≡ None = rw t at e in cc)
    (λ f. let n = eqb-false (mask_bit m i j) 1 f in omega arith)

-- A value is set. On any words, there are as many afterwards.
pub set_length : (m : List ℕ) (i j v : ℕ) → length (with_value m i j v) ≡ length m
unfolding with_value
set_length m i j v = by_test (eqb (mask_bit m i j) 1) (λ t. rw t)
    (λ f. rw f (length-set (masked m i j) (i * place_words + values_word + j) v ∙ length-set m (i * place_words + mask_word) (mask_at m i + 2 ^ j)))

module _ (m : List ℕ) (i j v : ℕ) (h : i < places) (size : length m ≡ memory_words) (below : j < max_provision_keys) where
  set_size : length (with_value m i j v) ≡ memory_words
  set_size = set_length m i j v ∙ size

  set_words : Others m (with_value m i j v) i
  unfolding with_value
  set_words n a = by_test (eqb (mask_bit m i j) 1)
      (λ t. rw t)
      (λ f. rw f (get_or-set_other (masked m i j) (i * place_words + values_word + j) n v 0 (λ e. a (omega arith) (omega arith))
      ∙ get_or-set_other m (i * place_words + mask_word) n (mask_at m i + 2 ^ j) 0 (λ e. a (omega arith) (omega arith))))

  pub set_taken : (k : ℕ) → taken (with_value m i j v) k ≡ taken m k
  set_taken k = taken_stays m (with_value m i j v) i h size set_size set_words k

  pub set_elsewhere : (k : ℕ) → k < places → k ≢ i → plugin_at (with_value m i j v) k ≡ plugin_at m k
  set_elsewhere k u d = others_stay m (with_value m i j v) i h size set_size set_words k u d

  module _ (free : mask_bit m i j ≡ 0) where
    as_set : with_value m i j v ≡ set (masked m i j) (i * place_words + values_word + j) v
    unfolding with_value
    as_set = rw (ne_eqb (mask_bit m i j) 1 (λ e. omega arith))

    pub new_mask : mask_at (with_value m i j v) i ≡ mask_at m i + 2 ^ j
    new_mask =
        rw as_set
        (get_or-set_other (masked m i j) (i * place_words + values_word + j) (i * place_words + mask_word) v 0 (λ e. omega arith)
        ∙ get_or-set_same m (i * place_words + mask_word) (mask_at m i + 2 ^ j) 0 (omega arith))

    new_value : word (with_value m i j v) (i * place_words + values_word + j) ≡ v
    new_value = rw as_set (get_or-set_same (masked m i j) (i * place_words + values_word + j) v 0 (simp length-set (omega arith)))

    old_value : (k : ℕ) → k ≢ j → word (with_value m i j v) (i * place_words + values_word + k) ≡ word m (i * place_words + values_word + k)
    old_value k n =
        rw as_set
        (get_or-set_other (masked m i j) (i * place_words + values_word + j) (i * place_words + values_word + k) v 0 (λ e. n (omega arith))
        ∙ get_or-set_other m (i * place_words + mask_word) (i * place_words + values_word + k) (mask_at m i + 2 ^ j) 0 (λ e. omega arith))

    pub set_here : value_at (with_value m i j v) i j ≡ Some v
    unfolding value_at
    set_here = rw (new_mask, set_there j (mask_at m i) free, new_value)

    pub set_other : (k : ℕ) → k ≢ j → value_at (with_value m i j v) i k ≡ value_at m i k
    unfolding value_at
    set_other k n = rw (new_mask, set_others j k (mask_at m i) n free, old_value k n)

    set_valued : (k : ℕ) (ps : List Port) → valued (with_value m i j v) i k ps ≡ given_at j v k (valued m i k ps)
    unfolding given_at
    set_valued k [] = refl
    set_valued k (p ∷ ps) =
        let r = set_valued (k + 1) ps in
        by_test (eqb k j)
        (λ t. let e = eqb-true k j t in let x : value_at (with_value m i j v) i k ≡ Some v = rw e set_here in rw (x, t, r))
        (λ f. rw (set_other k (eqb-false k j f), f, r))

    pub set_plugin : plugin_at (with_value m i j v) i ≡ with_provisions (given_at j v 0 (plugin_at m i).provisions) (plugin_at m i)
    set_plugin = provisions_stay m (with_value m i j v) i h size set_size set_words (given_at j v 0) (set_valued 0 (pairs (prov_part m i)))

    -- the port's place, where the plugin's ports are distinct
    pub set_offered : (q : Port) → repeats (pairs (prov_part m i)) ≡ false → port_from 0 q (pairs (prov_part m i)) ≡ Some j
        → plugin_at (with_value m i j v) i ≡ with_provisions (map (offered q v) (plugin_at m i).provisions) (plugin_at m i)
    set_offered q d e =
        let s = provided_at m i in
        let g = given_offered q j v 0 (plugin_at m i).provisions (ap repeats s ∙ d) (ap (port_from 0 q) s ∙ e) in
        set_plugin ∙ ap (λ (ws : List Provision). with_provisions ws (plugin_at m i)) g

-- All of a place's values are dropped.
pub drop-length : (m : List ℕ) (i : ℕ) → length (set m (i * place_words + mask_word) 0) ≡ length m
drop-length m i = length-set m (i * place_words + mask_word) 0

module _ (m : List ℕ) (i : ℕ) (h : i < places) (size : length m ≡ memory_words) where
  drop_size : length (set m (i * place_words + mask_word) 0) ≡ memory_words
  drop_size = drop-length m i ∙ size

  drop_words : Others m (set m (i * place_words + mask_word) 0) i
  drop_words n a = get_or-set_other m (i * place_words + mask_word) n 0 0 (λ e. a (omega arith) (omega arith))

  pub drop_taken : (k : ℕ) → taken (set m (i * place_words + mask_word) 0) k ≡ taken m k
  drop_taken k = taken_stays m (set m (i * place_words + mask_word) 0) i h size drop_size drop_words k

  pub drop_elsewhere : (k : ℕ) → k < places → k ≢ i → plugin_at (set m (i * place_words + mask_word) 0) k ≡ plugin_at m k
  drop_elsewhere k u d = others_stay m (set m (i * place_words + mask_word) 0) i h size drop_size drop_words k u d

  pub drop_value : (k : ℕ) → value_at (set m (i * place_words + mask_word) 0) i k ≡ None
  unfolding value_at
  drop_value k = rw (get_or-set_same m (i * place_words + mask_word) 0 0 (omega arith), zero-div (2 ^ k))

  drop_valued : (k : ℕ) (ps : List Port) → valued (set m (i * place_words + mask_word) 0) i k ps ≡ map dropped (valued m i k ps)
  drop_valued k [] = refl
  drop_valued k (p ∷ ps) = let r = drop_valued (k + 1) ps in rw (drop_value k, r)

  pub drop_plugin : plugin_at (set m (i * place_words + mask_word) 0) i ≡ with_provisions (map dropped (plugin_at m i).provisions) (plugin_at m i)
  drop_plugin = provisions_stay m (set m (i * place_words + mask_word) 0) i h size drop_size drop_words (map dropped) (drop_valued 0 (pairs (prov_part m i)))
