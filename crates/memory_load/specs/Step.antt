-- A plugin is written to the lowest free place, with its rows behind all others: the registry has it there, and the words stay dense.
use Rattle.std.specs.Prelude.{ℕ, ◌+◌, ◌*◌, ◌≤◌, ◌<◌, ◌≡◌, refl, true, ◌&&◌, ◌≢◌, List, [], ◌∷◌, map, leb, length, Option, Some, None}
use Rattle.std.proofs.Common.{arith, sym, ◌∙◌, leb-true}
use Rattle.std.proofs.Math.Path.{ap}
use Rattle.std.proofs.lemmas.List.{length-map}
use Rattle.rules.specs.Basics.{is_some, or_else, yes_no}
use Rattle.rules.specs.Conditions.{lists_short, claims}
use Rattle.rules.specs.Holds.{Provision, Plugin, provided, rows_of, with_provisions, edition_number, default_of}
use Rattle.rules_types.specs.declared.Port.{Port}
use Rattle.rules.specs.Limits.{max_rows, max_dependencies, max_provision_keys, max_realm_rows}
use Rattle.rules.specs.Outcomes.{at_lowest_free, with_places}
use Rattle.rules.specs.Ports.{pairs, flat}
use Rattle.rules.specs.Registration.{unoffered}
use Rattle.rules_laws.specs.Laws.Pairs.{length_flat, pairs_flat}
use Rattle.rules_laws.specs.Laws.Realms.{realm_list_back}
use Rattle.rules_laws.specs.Laws.Tests.{both}
use Rattle.memory.specs.Known.{life_of}
use Rattle.memory.specs.Layout.{word, taken, id_at, prov_part, place_words, places, occupancy_word, id_word}
use Rattle.memory.specs.Layout.{first_row_word, dependencies_word, provisions_word, realms_word}
use Rattle.memory.specs.View.{parent_of, plugin_at, place_at, places_from, view}
use Rattle.memory.specs.Writes.{put_life}
use Rattle.memory.specs.Frames.{with_life, life_before}
use Rattle.memory.specs.Stores.{plugin_put, plugin_other}
use Rattle.memory_lists.specs.Listed.{provided_at}
use Rattle.memory_places.specs.Changes.{free_at}
use Rattle.memory_places.specs.Free.{free_at_lem}
use Rattle.memory_places.specs.Placed.{taken_place}
use Rattle.memory_rows.specs.Dense.{used, Dense}
use Rattle.memory_rows.specs.Stored.{life_dense, same_dense}
use Rattle.memory_values.specs.Values.{put_values, mask_of, values_of}
use Rattle.memory_values.specs.After.{Others}
use Rattle.memory_values.specs.Given.{put_length, put_word, put_taken, put_elsewhere, put_plugin}
use Rattle.memory_entry.specs.Entries.{filled_place}
use Rattle.memory_entry.specs.Addition.{Newcomer, new_plugin_of, Sized}
use Rattle.memory_entry.specs.Filled.{filled_dense}
use Rattle.memory_load.specs.Loading.{loaded_place, entry_for, loaded_plugin}
use Rattle.memory_load.specs.Next.{filled_next}
use Rattle.memory_load.specs.Places.{place_taken, place_plugin, here_from, again_from}

-- what is written of it as of a new one
abbrev newcomer : Plugin → Newcomer
newcomer p = record {
  id = p.id;
  tag = yes_no (is_some p.parent);
  parent = or_else p.parent 0;
  payload = p.payload;
  d = length p.dependencies;
  dependencies = flat p.dependencies;
  anchor = p.anchor;
  c = length p.provisions;
  provisions = flat (provided p);
  edition = edition_number p.realms.edition;
  default = default_of p.realms.edition;
  z = length p.realms.rows;
  realms = flat p.realms.rows;
}

-- With its life and its provisions it is the plugin itself.
pub parent_back : (o : Option ℕ) → parent_of (yes_no (is_some o)) (or_else o 0) ≡ o
parent_back None = refl
parent_back (Some x) = refl

whole_plugin : (p : Plugin) → with_provisions p.provisions (with_life (new_plugin_of (newcomer p)) (life_of p)) ≡ p
whole_plugin p = λ x. record {
  id = p.id;
  parent = parent_back p.parent x;
  anchor = p.anchor;
  realms = realm_list_back p.realms x;
  dependencies = pairs_flat p.dependencies x;
  provisions = p.provisions;
  revision = p.revision;
  payload = p.payload;
  phase = p.phase;
  retired = p.retired;
  generation = p.generation;
  root = p.root;
}

unoffered_ports : (qs : List Port) → map (λ (v : Provision). v.port) (map unoffered qs) ≡ qs
unoffered_ports [] = refl
unoffered_ports (q ∷ qs) = ap (λ l. q ∷ l) (unoffered_ports qs)

-- its lists are within the limits
record Few (p : Plugin) : Type 0 where
  pub realms : length p.realms.rows ≤ max_realm_rows
  pub dependencies : length p.dependencies ≤ max_dependencies
  pub provisions : length p.provisions ≤ max_provision_keys

short_few : (p : Plugin) → lists_short p ≡ true → Few p
short_few p short =
    let z = leb (length p.realms.rows) max_realm_rows in
    let d = leb (length p.dependencies) max_dependencies in
    let v = leb (length p.provisions) max_provision_keys in
    let a = both (z && d) v short in
    let b = both z d a.0 in
    record { realms = leb-true _ _ b.0; dependencies = leb-true _ _ b.1; provisions = leb-true _ _ a.1 }

module _ (m : List ℕ) (i next : ℕ) (p : Plugin) (dense : Dense m) (lowest : free_at m ≡ Some i) (short : lists_short p ≡ true)
    (room : used m + rows_of p ≤ max_rows) (new : (j : ℕ) → taken m j ≡ true → id_at m j ≢ p.id) where
  h : i < places
  h = (free_at_lem m i lowest).below

  few : Few p
  few = short_few p short

  provisions_count : length (provided p) ≡ length p.provisions
  provisions_count = length-map p.provisions (λ (v : Provision). v.port)

  sized : Sized m (newcomer p)
  sized = record {
    dependencies = omega (arith, length_flat p.dependencies);
    provisions = omega (arith, length_flat (provided p), provisions_count);
    realms = omega (arith, length_flat p.realms.rows);
    few_dependencies = few.dependencies;
    few_provisions = few.provisions;
    few_realms = few.realms;
    room = room;
  }

  -- as a new one
  abbrev m₁ : List ℕ
  m₁ = filled_place m i (entry_for p (used m) next) (flat p.dependencies) (flat (claims p)) (flat p.realms.rows)

  dense₁ : Dense m₁
  dense₁ = filled_dense m i (newcomer p) next lowest dense sized new

  view₁ : view m₁ ≡ with_places (view m) next (at_lowest_free (new_plugin_of (newcomer p)) (view m).places)
  view₁ = filled_next m i (newcomer p) lowest dense sized new next

  places₁ : places_from places m₁ 0 ≡ at_lowest_free (new_plugin_of (newcomer p)) (places_from places m 0)
  unfolding view
  places₁ = ap (λ r. r.places) view₁

  place₁ : place_at m₁ i ≡ Some (new_plugin_of (newcomer p))
  unfolding free_at
  place₁ = here_from m m₁ i (new_plugin_of (newcomer p)) places 0 lowest places₁

  -- with its life
  abbrev m₂ : List ℕ
  m₂ = put_life m₁ i (life_of p)

  dense₂ : Dense m₂
  dense₂ = life_dense m₁ i (life_of p) dense₁

  taken₂ : (j : ℕ) → taken m₂ j ≡ taken m₁ j
  unfolding taken
  taken₂ j = rw (life_before m₁ i (life_of p) occupancy_word (omega arith))

  plugin₂ : plugin_at m₂ i ≡ with_life (new_plugin_of (newcomer p)) (life_of p)
  plugin₂ = plugin_put m₁ i (life_of p) h dense₁.size ∙ ap (λ q. with_life q (life_of p)) (place_plugin m₁ i (new_plugin_of (newcomer p)) place₁)

  ports : provided p ≡ pairs (prov_part m₂ i)
  ports = sym (sym (provided_at m₂ i) ∙ ap provided plugin₂ ∙ unoffered_ports (pairs (flat (provided p))) ∙ pairs_flat (provided p))

  -- with its values
  abbrev m₃ : List ℕ
  m₃ = put_values m₂ i (mask_of p.provisions) (values_of p.provisions)

  only : Others m₂ m₃ i
  only = put_word m₂ i (mask_of p.provisions) (values_of p.provisions)

  plugin₃ : plugin_at m₃ i ≡ p
  plugin₃ =
      put_plugin m₂ i h dense₂.size p.provisions few.provisions ports
      ∙ ap (with_provisions p.provisions) plugin₂ ∙ whole_plugin p

  taken₃ : (j : ℕ) → taken m₃ j ≡ taken m₁ j
  taken₃ j = put_taken m₂ i h dense₂.size (mask_of p.provisions) (values_of p.provisions) j ∙ taken₂ j

  place₃ : place_at m₃ i ≡ Some p
  place₃ = taken_place m₃ i (taken₃ i ∙ place_taken m₁ i (new_plugin_of (newcomer p)) place₁) ∙ ap Some plugin₃

  -- any other place
  apart₃ : (j : ℕ) → j < places → j ≢ i → place_at m₃ j ≡ place_at m₁ j
  unfolding place_at
  apart₃ j k d =
      let e : plugin_at m₃ j ≡ plugin_at m₁ j = put_elsewhere m₂ i h dense₂.size (mask_of p.provisions) (values_of p.provisions) j k d
      ∙ plugin_other m₁ i (life_of p) h dense₁.size j k (λ x. d (sym x)) in
      rw (taken₃ j, e)

  places₃ : places_from places m₃ 0 ≡ at_lowest_free p (places_from places m 0)
  unfolding free_at
  places₃ = again_from m m₁ i (new_plugin_of (newcomer p)) m₃ p place₃ places 0 lowest places₁ (λ j a b. apart₃ j b)

  header : (k : ℕ) → k < 3 → word m₃ k ≡ word m₁ k
  header k a = only k (λ b c. omega arith) ∙ life_before m₁ i (life_of p) k (omega arith)

  -- The registry has the plugin at the lowest free place, and the next id that was written.
  pub loaded_view : view (loaded_plugin m i (used m) next p) ≡ with_places (view m) next (at_lowest_free p (view m).places)
  unfolding view loaded_place
  loaded_view = λ x. record {
    domain = (header 0 (omega arith) ∙ ap (λ r. r.domain) view₁) x;
    first = (header 1 (omega arith) ∙ ap (λ r. r.first) view₁) x;
    next = (header 2 (omega arith) ∙ ap (λ r. r.next) view₁) x;
    places = places₃ x;
  }

  pub loaded_dense : Dense (loaded_plugin m i (used m) next p)
  unfolding loaded_place
  loaded_dense = same_dense m₂ m₃ dense₂ (put_length m₂ i (mask_of p.provisions) (values_of p.provisions)) (only occupancy_word (λ a b. omega arith))
      (λ j. only (j * place_words + id_word) (λ a b. omega arith))
      (λ j. only (j * place_words + first_row_word) (λ a b. omega arith))
      (λ j. only (j * place_words + dependencies_word) (λ a b. omega arith))
      (λ j. only (j * place_words + provisions_word) (λ a b. omega arith))
      (λ j. only (j * place_words + realms_word) (λ a b. omega arith))
