-- Of dense words in which no plugin has the next id, the registry after a registration is the rules', and the words are dense again.
use Rattle.std.specs.Prelude.{ℕ, ◌+◌, ◌≤◌, ◌≡◌, refl, ◌≢◌, true, List, [], ◌∷◌, map, ltb, drop, Option, Some, None}
use Rattle.std.proofs.Common.{arith, ap, ◌∙◌, ltb-false}
use Rattle.std.proofs.Math.ListN.{length, length-map}
use Rattle.rules.specs.Holds.{Registry, rows_of, rows_in_use, edition_number, default_of}
use Rattle.rules.specs.Ports.{flat, realm_list, realms_of, resolve}
use Rattle.rules.specs.Outcomes.{Outcome, adds, after}
use Rattle.rules.specs.Registration.{Definition, resolved, unoffered, dependencies_of, new_plugin, registration_checks, register}
use Rattle.rules_laws.specs.Built.{Built}
use Rattle.rules_laws.specs.Kept.New.{new_ports}
use Rattle.rules_laws.specs.Laws.Realms.{realm_list_back}
use Rattle.rules_laws.specs.Laws.Tests.{neither, Passed, checked_elim}
use Rattle.memory.specs.Ways.{left_by}
use Rattle.memory.specs.Layout.{word, taken, id_at, next_word}
use Rattle.rules.specs.Limits.{max_rows, max_dependencies, max_dependency_keys, max_provision_keys, max_realm_rows}
use Rattle.memory.specs.View.{parent_of, plugin_at, view}
use Rattle.memory_places.specs.Changes.{free_at}
use Rattle.memory_places.specs.Free.{count_full}
use Rattle.memory_places.specs.Placed.{taken_in}
use Rattle.ports.specs.Places.{length_pairs, length_flat, pairs_flat}
use Rattle.ports_realms.specs.Rows.{good_realms}
use Rattle.memory_entry.specs.Entries.{filled_place}
use Rattle.memory_rows.specs.Dense.{used, Dense, used_is, Refines}
use Rattle.memory_entry.specs.Addition.{Newcomer, new_plugin_of, Sized}
use Rattle.memory_entry.specs.Filled.{entry_of, claim_words, filled_dense, filled_view}
use Rattle.registry_register.specs.Parts.{tag_of, word_of}
use Rattle.registry_register.specs.Written.{added_to}

-- No registered plugin has the next id.
abbrev pub Fresh : List ℕ → Type 0
Fresh m = (j : ℕ) → taken m j ≡ true → id_at m j ≢ word m next_word

pub built_fresh : (m : List ℕ) → Built (view m) → Fresh m
unfolding view plugin_at
built_fresh m b j t e = omega (arith, (b.members (plugin_at m j) (taken_in m j t)).below)

parent_back : (p : Option ℕ) → parent_of (tag_of p) (word_of p) ≡ p
parent_back None = refl
parent_back (Some id) = refl

module _ (m : List ℕ) (d : Definition) where
  abbrev r : Registry
  r = view m

  -- what is written of the new plugin
  abbrev n : Newcomer
  n = record {
    id = word m next_word;
    tag = tag_of d.parent;
    parent = word_of d.parent;
    payload = d.payload;
    d = length (dependencies_of r d);
    dependencies = flat (dependencies_of r d);
    anchor = d.anchor;
    c = length (map unoffered (resolved d d.provisions));
    provisions = flat (resolved d d.provisions);
    edition = edition_number (realm_list d.realms).edition;
    default = default_of (realm_list d.realms).edition;
    z = length (realm_list d.realms).rows;
    realms = flat (realm_list d.realms).rows;
  }

  same : new_plugin_of n ≡ new_plugin r d
  unfolding new_plugin view
  same = rw (parent_back d.parent, pairs_flat (dependencies_of r d), pairs_flat (resolved d d.provisions), realm_list_back (realm_list d.realms))

  module _ (dense : Dense m) (fresh : Fresh m) (p : Passed (registration_checks r d)) where
    rows : rows_in_use r + rows_of (new_plugin r d) ≤ max_rows
    rows = ltb-false _ _ p.1.1.1.1.1.1.1.1.1.1.1.1.0

    fits : length (dependencies_of r d) ≤ max_dependencies
    fits = ltb-false _ _ p.1.1.1.1.1.1.1.1.1.1.1.0

    few : length d.provisions ≤ max_provision_keys
    few = ltb-false _ _ (neither (ltb max_dependency_keys (length d.dependencies)) (ltb max_provision_keys (length d.provisions)) p.1.1.0).1

    few_rows : length (realm_list d.realms).rows ≤ max_realm_rows
    unfolding realm_list
    few_rows = omega (arith, length_pairs (drop 2 d.realms), (good_realms (drop 2 d.realms) p.1.0).1)

    sized : Sized m n
    unfolding new_plugin
    sized =
        let c : length (map unoffered (resolved d d.provisions)) ≡ length (resolved d d.provisions) = length-map (resolved d d.provisions) unoffered in
        record {
          dependencies = omega (arith, length_flat (dependencies_of r d));
          provisions = omega (arith, c, length_flat (resolved d d.provisions));
          realms = omega (arith, length_flat (realm_list d.realms).rows);
          few_dependencies = fits;
          few_provisions = omega (arith, c, few, length-map d.provisions (resolve (realms_of d.realms)));
          few_realms = few_rows;
          room = omega (arith, rows, used_is m dense.size, c);
        }

    abbrev o : Outcome
    o = adds (new_plugin r d) (r.next ∷ [])

    written : (at : ℕ) → free_at m ≡ Some at
        → added_to m o ≡ filled_place m at (entry_of n (used m) (word m next_word + 1)) n.dependencies (claim_words n) n.realms
    unfolding left_by new_plugin
    written at e = rw e λ i.
        filled_place m at (entry_of n (used_is m dense.size i) (word m next_word + 1)) n.dependencies (flat (d.anchor ∷ new_ports r d i)) n.realms

    registered : (free : Option ℕ) → free_at m ≡ free → Refines m (added_to m o) o
    registered None e =
        let a = count_full m e in
        let b = p.1.1.1.1.1.1.1.1.1.1.0 in
        let z : ◌≡◌ {A = ℕ} 0 1 = cc in
        absurd (omega arith)
    registered (Some at) e = rw (written at e) record {
      registry = filled_view m at n (word m next_word + 1) e dense sized fresh refl (r.next ∷ []) ∙ ap (λ x. after r (adds x (r.next ∷ []))) same;
      dense = filled_dense m at n (word m next_word + 1) e dense sized fresh;
    }

  pub register_refines : Dense m → Fresh m → Refines m (added_to m (register (view m) d)) (register (view m) d)
  unfolding register left_by after
  register_refines dense fresh = checked_elim (λ u. Refines m (added_to m u) u) (registration_checks r d) (adds (new_plugin r d) (r.next ∷ []))
      (λ x. record { registry = refl; dense = dense }) (λ p. registered dense fresh p (free_at m) refl)
