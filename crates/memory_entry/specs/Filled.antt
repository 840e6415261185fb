-- A filled place is an addition: of a dense memory, the registry afterwards is the rule's.
use Rattle.std.specs.Prelude.{ℕ, suc, ◌+◌, ◌*◌, ◌<◌, ◌≤◌, ◌≡◌, true, false, ◌≢◌, List, ◌∷◌, leb, length, get_or, set, Some}
use Rattle.std.proofs.Common.{arith, sym, ap, ◌∙◌, lit<, length-set, get_or-set_other}
use Rattle.std.proofs.Math.Seq.{get_or-set_same}
use borrow.Author.Tests.{le-leb}
use Rattle.rules.specs.Outcomes.{adds, after}
use Rattle.rules_laws.specs.Laws.Tests.{by_test}
use Rattle.rules.specs.Limits.{max_rows, max_dependencies}
use Rattle.memory.specs.Layout.{word, taken, id_at, row_word, memory_words, place_words, places, next_word, rows_start, id_word, edition_word, place_end, row_words}
use Rattle.memory.specs.Layout.{domain_word, first_word, occupancy_word}
use Rattle.memory.specs.View.{place_at, view}
use Rattle.memory.specs.Writes.{puts}
use Rattle.memory.specs.Frames.{puts_length, puts_before, puts_after, puts_same, puts_apart}
use Rattle.memory_places.specs.Changes.{free_at, occupied_at}
use Rattle.memory_places.specs.Taken.{occupied_length, occupied_word, occupied_here, occupied_others}
use Rattle.memory_places.specs.Free.{free_at_lem}
use Rattle.memory_places.specs.Placed.{taken_place, free_place_lem, places_added}
use Rattle.memory_entry.specs.Entries.{entry_words, filled_place}
use Rattle.memory_rows.specs.Dense.{used, Dense}
use Rattle.memory_entry.specs.Addition.{Newcomer, list_words, new_plugin_of, Sized, Adds, added_dense, added_other, added_plugin}
use Rattle.memory_entry.specs.declared.Entry.{Entry}

-- on any words, there are as many afterwards
pub filled_size : (m : List ℕ) (p : ℕ) (e : Entry) (ds cs zs : List ℕ) → length (filled_place m p e ds cs zs) ≡ length m
unfolding filled_place
filled_size m p e ds cs zs =
    let r = row_word e.start in
    let m₁ = puts m r 0 ds in
    let m₂ = puts m₁ (r + length ds) 0 cs in
    let zs' = e.edition ∷ e.default ∷ zs in
    let m₃ = puts m₂ (p * place_words + edition_word) 0 zs' in
    let m₄ = puts m₃ (p * place_words) id_word (entry_words e) in
    by_test (leb e.start max_rows)
    (λ t. by_test (leb (length ds) (max_dependencies * row_words))
    (λ u. rw (t, u) (
    occupied_length (set m₄ next_word e.next) p ∙ length-set m₄ next_word e.next ∙ puts_length (entry_words e) m₃ (p * place_words) id_word
    ∙ puts_length zs' m₂ (p * place_words + edition_word) 0 ∙ puts_length cs m₁ (r + length ds) 0 ∙ puts_length ds m r 0))
    (λ f. rw (t, f)))
    (λ f. rw f)

-- What is written of a newcomer, with its first row and the next id.
abbrev pub entry_of : Newcomer → ℕ → ℕ → Entry
entry_of n start next = record {
  id = n.id;
  tag = n.tag;
  parent = n.parent;
  payload = n.payload;
  start = start;
  dependencies = n.d;
  provisions = n.c;
  realms = n.z;
  edition = n.edition;
  default = n.default;
  next = next;
}

abbrev pub claim_words : Newcomer → List ℕ
claim_words n = n.anchor.key ∷ n.anchor.realm ∷ n.provisions

module _ (m : List ℕ) (p : ℕ) (n : Newcomer) (next : ℕ) (lowest : free_at m ≡ Some p) (d : Dense m) (z : Sized m n) where
  abbrev E : Entry
  E = entry_of n (used m) next

  abbrev R : ℕ
  R = row_word (used m)

  abbrev m₁ : List ℕ
  m₁ = puts m R 0 n.dependencies

  abbrev m₂ : List ℕ
  m₂ = puts m₁ (R + length n.dependencies) 0 (claim_words n)

  abbrev m₃ : List ℕ
  m₃ = puts m₂ (p * place_words + edition_word) 0 (list_words n)

  abbrev m₄ : List ℕ
  m₄ = puts m₃ (p * place_words) id_word (entry_words E)

  abbrev m₅ : List ℕ
  m₅ = set m₄ next_word next

  abbrev filled : List ℕ
  filled = occupied_at m₅ p

  h : p < places
  h = (free_at_lem m p lowest).below

  free : taken m p ≡ false
  free = (free_at_lem m p lowest).free

  filled_is : filled_place m p E n.dependencies (claim_words n) n.realms ≡ filled
  unfolding filled_place
  filled_is = rw (le-leb _ _ d.room, le-leb (length n.dependencies) (max_dependencies * row_words) (omega (arith, z.dependencies, z.few_dependencies)))

  size₁ : length m₁ ≡ memory_words
  size₁ = puts_length n.dependencies m R 0 ∙ d.size

  size₂ : length m₂ ≡ memory_words
  size₂ = puts_length (claim_words n) m₁ (R + length n.dependencies) 0 ∙ size₁

  size₃ : length m₃ ≡ memory_words
  size₃ = puts_length (list_words n) m₂ (p * place_words + edition_word) 0 ∙ size₂

  size₄ : length m₄ ≡ memory_words
  size₄ = puts_length (entry_words E) m₃ (p * place_words) id_word ∙ size₃

  size₅ : length m₅ ≡ memory_words
  size₅ = length-set m₄ next_word next ∙ size₄

  -- past the header nothing changes any more once the place's own words stand
  late : (k : ℕ) → 3 < k → word filled k ≡ word m₄ k
  late k a = occupied_word m₅ p k (omega arith) ∙ get_or-set_other m₄ next_word k next 0 (omega arith)

  -- a word outside the place's own
  outside : (k : ℕ) → (p * place_words + id_word ≤ k → k < p * place_words + place_end → ⊥) → word m₄ k ≡ word m₂ k
  outside k f =
      puts_apart (entry_words E) m₃ (p * place_words) id_word k (λ a b. f (omega arith) (omega arith))
      ∙ puts_apart (list_words n) m₂ (p * place_words + edition_word) 0 k (λ a b. f (omega arith) (omega (arith, z.realms, z.few_realms)))

  -- a word in front of the new rows
  front : (k : ℕ) → k < R → word m₂ k ≡ word m k
  front k a = puts_before (claim_words n) m₁ (R + length n.dependencies) 0 k (omega arith) ∙ puts_before n.dependencies m R 0 k (omega arith)

  still : (k : ℕ) → k ≢ next_word → k < R → (p * place_words + id_word ≤ k → k < p * place_words + place_end → ⊥) → word m₅ k ≡ word m k
  still k a b f = get_or-set_other m₄ next_word k next 0 a ∙ outside k f ∙ front k b

  taken_still : (j : ℕ) → taken m₅ j ≡ taken m j
  unfolding taken
  taken_still j = rw (still occupancy_word (omega arith) (omega arith) (λ a b. omega arith))

  own : (k : ℕ) → k < 16 → word filled (p * place_words + (id_word + k)) ≡ get_or (entry_words E) k 0
  own k a = late (p * place_words + (id_word + k)) (omega arith) ∙ puts_same (entry_words E) m₃ (p * place_words) id_word k a (omega (arith, size₃, h))

  -- a word of the new rows
  row : (k : ℕ) → R ≤ k → word filled k ≡ word m₂ k
  row k a = late k (omega arith) ∙ outside k (λ b c. omega (arith, h))

  claim : (k : ℕ) → k < length (claim_words n) → word m₂ (R + length n.dependencies + k) ≡ get_or (claim_words n) k 0
  claim k a =
      let e : R + length n.dependencies + k ≡ R + length n.dependencies + (0 + k) = omega arith in
      ap (word m₂) e ∙ puts_same (claim_words n) m₁ (R + length n.dependencies) 0 k a (omega (arith, size₁, z.dependencies, z.provisions, z.room))

  filled_adds : Adds m filled p n
  filled_adds = record {
    size = occupied_length m₅ p ∙ size₅ ∙ sym d.size;
    comes = occupied_here m₅ p size₅ h (taken_still p ∙ free);
    kept = λ j a. occupied_others m₅ p size₅ h (taken_still p ∙ free) j a ∙ taken_still j;
    words = λ j k a b c f. occupied_word m₅ p (j * place_words + k) (omega arith)
        ∙ still (j * place_words + k) (omega arith) (omega arith) (λ u v. b (omega arith));
    rows = λ k a. late (rows_start + k) (omega arith) ∙ outside (rows_start + k) (λ b c. omega (arith, h)) ∙ front (rows_start + k) (omega arith);
    id = own 0 (lit< tt);
    tag = own 1 (lit< tt);
    parent = own 2 (lit< tt);
    revision = own 3 (lit< tt);
    payload = own 4 (lit< tt);
    phase = own 5 (lit< tt);
    retired = own 6 (lit< tt);
    generation = own 7 (lit< tt);
    root = own 8 (lit< tt);
    start = own 11 (lit< tt);
    d = own 12 (lit< tt);
    c = own 13 (lit< tt);
    z = own 14 (lit< tt);
    mask = own 15 (lit< tt);
    realms = λ k a.
        let e : p * place_words + edition_word + k ≡ p * place_words + edition_word + (0 + k) = omega arith in
        late (p * place_words + edition_word + k) (omega arith)
        ∙ puts_after (entry_words E) m₃ (p * place_words) id_word (p * place_words + edition_word + k) (omega arith)
        ∙ ap (word m₃) e
        ∙ puts_same (list_words n) m₂ (p * place_words + edition_word) 0 k (omega (arith, z.realms)) (omega (arith, size₂, z.realms, z.few_realms, h));
    dependencies = λ k a.
        let e : R + k ≡ R + (0 + k) = omega arith in
        row (R + k) (omega arith)
        ∙ puts_before (claim_words n) m₁ (R + length n.dependencies) 0 (R + k) (omega (arith, z.dependencies))
        ∙ ap (word m₁) e
        ∙ puts_same n.dependencies m R 0 k (omega (arith, z.dependencies)) (omega (arith, d.size, d.room, z.dependencies, z.few_dependencies));
    anchor_key =
        let e : row_word (used m + n.d) ≡ R + length n.dependencies + 0 = omega (arith, z.dependencies) in
        row (row_word (used m + n.d)) (omega arith) ∙ ap (word m₂) e ∙ claim 0 (omega arith);
    anchor_realm =
        let e : row_word (used m + n.d) + 1 ≡ R + length n.dependencies + 1 = omega (arith, z.dependencies) in
        row (row_word (used m + n.d) + 1) (omega arith) ∙ ap (word m₂) e ∙ claim 1 (omega arith);
    provisions = λ k a.
        let e : row_word (used m + n.d) + 2 + k ≡ R + length n.dependencies + suc (suc k) = omega (arith, z.dependencies) in
        row (row_word (used m + n.d) + 2 + k) (omega arith) ∙ ap (word m₂) e ∙ claim (suc (suc k)) (omega (arith, z.provisions));
  }

  -- of a newcomer whose id is new
  module _ (new : (j : ℕ) → taken m j ≡ true → id_at m j ≢ n.id) where
    filled_place_lem : place_at filled p ≡ Some (new_plugin_of n)
    filled_place_lem = taken_place filled p filled_adds.comes ∙ ap Some (added_plugin m filled p n h free new d z filled_adds)

    other_place : (j : ℕ) → j ≢ p → place_at filled j ≡ place_at m j
    other_place j a = by_test (taken m j)
        (λ t. taken_place filled j (filled_adds.kept j a ∙ t) ∙ ap Some (added_other m filled p n h free new d z filled_adds j a t) ∙ sym (taken_place m j t))
        (λ f. free_place_lem filled j (filled_adds.kept j a ∙ f) ∙ sym (free_place_lem m j f))

    -- The memory stays dense, and the registry gains the plugin at the lowest free place.
    pub filled_dense : Dense (filled_place m p E n.dependencies (claim_words n) n.realms)
    filled_dense = rw filled_is (added_dense m filled p n h free new d z filled_adds)

    pub filled_view : next ≡ word m next_word + 1 → (vs : List ℕ)
        → view (filled_place m p E n.dependencies (claim_words n) n.realms) ≡ after (view m) (adds (new_plugin_of n) vs)
    unfolding view after
    filled_view e vs = rw filled_is (λ x. record {
      domain = (occupied_word m₅ p domain_word (omega arith) ∙ still domain_word (omega arith) (omega arith) (λ a b. omega arith)) x;
      first = (occupied_word m₅ p first_word (omega arith) ∙ still first_word (omega arith) (omega arith) (λ a b. omega arith)) x;
      next = (occupied_word m₅ p next_word (omega arith) ∙ get_or-set_same m₄ next_word next 0 (omega (arith, size₄)) ∙ e) x;
      places = places_added m filled p (new_plugin_of n) filled_place_lem lowest (λ j a b. other_place j b) x;
    })
