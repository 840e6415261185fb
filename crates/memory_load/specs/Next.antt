-- A filled place with any next id: the registry has that id, and is as registration has it beside.
use Rattle.std.specs.Prelude.{ℕ, ◌+◌, ◌*◌, ◌≤◌, ◌<◌, ◌%◌, ◌≡◌, refl, true, ◌||◌, ◌≢◌, List, [], leb, set, Some}
use Rattle.std.proofs.Common.{arith, sym, ◌∙◌, length-set, get_or-set_same, get_or-set_other}
use Rattle.std.proofs.Math.Path.{ap}
use Rattle.std.proofs.Math.ListN.{length}
use Rattle.std.proofs.lemmas.List.{set_comm}
use borrow.Author.Tests.{le-leb}
use Rattle.rules.specs.Holds.{Registry}
use Rattle.rules.specs.Outcomes.{adds, after, with_places, at_lowest_free}
use Rattle.rules.specs.Limits.{max_rows, max_dependencies}
use Rattle.rules_laws.specs.Laws.Tests.{by_test}
use Rattle.memory.specs.Layout.{word, taken, id_at, start_at, row_word, memory_words, place_words, places, domain_word, first_word, next_word, occupancy_word, id_word}
use Rattle.memory.specs.Layout.{revision_word, payload_word, phase_word, retired_word, generation_word, root_word, root_revision_word, root_argument_word, first_row_word}
use Rattle.memory.specs.Layout.{edition_word, row_words}
use Rattle.memory.specs.View.{words_at, decoded, life_at, plugin_at, place_at, places_from, view}
use Rattle.memory.specs.Writes.{puts}
use Rattle.memory.specs.Frames.{plugin_kept, with_life}
use Rattle.memory.specs.Stores.{kept_frame}
use Rattle.memory_places.specs.Changes.{free_at, occupied_at}
use Rattle.memory_places.specs.Placed.{places_same}
use Rattle.memory_rows.specs.Dense.{used, Dense}
use Rattle.memory_entry.specs.Entries.{entry_words, filled_place}
use Rattle.memory_entry.specs.Addition.{Newcomer, list_words, new_plugin_of, Sized}
use Rattle.memory_entry.specs.Filled.{filled_size, entry_of, claim_words, filled_view}

-- The places don't read the word of the next id.
module _ (m m' : List ℕ) (size : length m ≡ memory_words) (size' : length m' ≡ memory_words) (same : (k : ℕ) → k ≢ next_word → word m' k ≡ word m k) where
  words_same : (j : ℕ) → words_at m' j ≡ words_at m j
  words_same j = λ x. record {
    revision = same (j * place_words + revision_word) (omega arith) x;
    payload = same (j * place_words + payload_word) (omega arith) x;
    phase = same (j * place_words + phase_word) (omega arith) x;
    retired = same (j * place_words + retired_word) (omega arith) x;
    generation = same (j * place_words + generation_word) (omega arith) x;
    root = same (j * place_words + root_word) (omega arith) x;
    root_revision = same (j * place_words + root_revision_word) (omega arith) x;
    root_argument = same (j * place_words + root_argument_word) (omega arith) x;
  }

  plugin_same : (j : ℕ) → j < places → plugin_at m' j ≡ plugin_at m j
  unfolding plugin_at life_at
  plugin_same j h =
      plugin_kept m m' j (kept_frame m m' j h size size'
      (λ k a b. same (j * place_words + k) (omega arith))
      (λ k a b. same (j * place_words + k) (omega arith))
      (λ k u. ap (λ s. word m' (row_word (s % max_rows) + k)) (same (j * place_words + first_row_word) (omega arith))
      ∙ same (row_word (start_at m j) + k) (omega arith)))
      ∙ ap (λ x. with_life (plugin_at m j) (decoded x)) (words_same j)

  taken_same : (j : ℕ) → taken m' j ≡ taken m j
  unfolding taken
  taken_same j = rw (same occupancy_word (omega arith))

  pub next_places : places_from places m' 0 ≡ places_from places m 0
  unfolding place_at
  next_places = places_same m m' places 0 (λ j a b. rw (taken_same j, plugin_same j b))

-- taking a place and writing the next id, in either order
occupied_next : (m : List ℕ) (p n : ℕ) → occupied_at (set m next_word n) p ≡ set (occupied_at m p) next_word n
unfolding occupied_at taken
occupied_next m p n =
    let e = get_or-set_other m next_word occupancy_word n 0 (omega arith) in
    rw e (by_test (taken m p || leb places p) (λ t. rw t) (λ f. rw f (set_comm m next_word occupancy_word n _ (omega arith))))

-- The registry gains the newcomer at the lowest free place, and the next id is the one that was written.
module _ (m : List ℕ) (p : ℕ) (x : Newcomer) (lowest : free_at m ≡ Some p) (d : Dense m) (z : Sized m x)
    (new : (j : ℕ) → taken m j ≡ true → id_at m j ≢ x.id) where
  abbrev R : ℕ
  R = row_word (used m)

  abbrev rows : List ℕ
  rows = puts (puts m R 0 x.dependencies) (R + length x.dependencies) 0 (claim_words x)

  -- all but the next id
  abbrev rest : List ℕ
  rest = occupied_at (puts (puts rows (p * place_words + edition_word) 0 (list_words x)) (p * place_words) id_word (entry_words (entry_of x (used m) 0))) p

  abbrev filled : ℕ → List ℕ
  filled n = filled_place m p (entry_of x (used m) n) x.dependencies (claim_words x) x.realms

  is_set : (n : ℕ) → filled n ≡ set rest next_word n
  unfolding filled_place
  is_set n =
      let few : length x.dependencies ≤ max_dependencies * row_words = omega (arith, z.dependencies, z.few_dependencies) in
      rw (le-leb (used m) max_rows d.room, le-leb (length x.dependencies) (max_dependencies * row_words) few) (occupied_next _ p n)

  size : (n : ℕ) → length (filled n) ≡ memory_words
  size n = filled_size m p (entry_of x (used m) n) x.dependencies (claim_words x) x.realms ∙ d.size

  apart : (n k : ℕ) → k ≢ next_word → word (filled n) k ≡ word rest k
  apart n k h = ap (λ l. word l k) (is_set n) ∙ get_or-set_other rest next_word k n 0 h

  there : (n : ℕ) → word (filled n) next_word ≡ n
  there n =
      ap (λ l. word l next_word) (is_set n) ∙ get_or-set_same rest next_word n 0 (omega (arith, size n, ap length (is_set n), length-set rest next_word n))

  -- the next id that registration writes
  abbrev own : ℕ
  own = word m next_word + 1

  same : (n k : ℕ) → k ≢ next_word → word (filled n) k ≡ word (filled own) k
  same n k h = apart n k h ∙ sym (apart own k h)

  registered : view (filled own) ≡ after (view m) (adds (new_plugin_of x) [])
  registered = filled_view m p x own lowest d z new refl []

  pub filled_next : (n : ℕ) → view (filled_place m p (entry_of x (used m) n) x.dependencies (claim_words x) x.realms)
      ≡ with_places (view m) n (at_lowest_free (new_plugin_of x) (view m).places)
  unfolding view after
  filled_next n = λ y. record {
    domain = (same n domain_word (omega arith) ∙ ap (λ (r : Registry). r.domain) registered) y;
    first = (same n first_word (omega arith) ∙ ap (λ (r : Registry). r.first) registered) y;
    next = there n y;
    places = (next_places (filled own) (filled n) (size own) (size n) (same n) ∙ ap (λ (r : Registry). r.places) registered) y;
  }
