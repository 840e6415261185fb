-- A registration is its three runs of checks over the lent lists, and then the plugin written.
use Rattle.std.specs.Prelude.{Option, Some, None, Result, Ok, Err}
use Prim.Native.Nat.{ℕ, ◌+◌, ◌-◌, ◌*◌, ◌/◌, ◌≤◌}
use native.Mathlib.Omega.{arith}
use mathlib.Core.Path.{◌≡◌, refl, sym, ap, ◌∙◌}
use mathlib.Core.Bool.{false}
use mathlib.Core.List.{List, [], ◌∷◌, map}
use lib.Dec.{ltb, leb}
use lib.ListN.{length, take, drop, length-drop, length-map}
use lib.Seq.{take_all}
use borrow.Author.Tests.{ltb-false, lt-ltb, leb-true, leb-false}
use Rattle.rules.specs.Holds.{Registry, provided, rows_of, rows_in_use}
use Rattle.rules_types.specs.declared.Port.{Port}
use Rattle.rules.specs.Ports.{pairs, flat, bad_realms, realm_list, realms_of}
use Rattle.rules.specs.Dependencies.{dependency_list}
use Rattle.rules.specs.Refusals.{Refusal, number}
use Rattle.rules.specs.Outcomes.{Refused, adds, refuses, answer_of}
use Rattle.rules.specs.Registration.{Definition, parent_of, inherited_from, resolved, claimed, unoffered, dependencies_of, new_plugin, claim_checks, room_checks}
use Rattle.rules.specs.Registration.{register}
use Rattle.rules_laws.specs.Laws.Tests.{by_test, neither}
use Rattle.rules_laws.specs.Kept.New.{new_ports}
use Rattle.memory.specs.Ways.{left_by}
use Rattle.rules.specs.Limits.{max_dependencies, max_dependency_keys, max_provision_keys}
use Rattle.memory.specs.Layout.{part, dep_part}
use Rattle.memory.specs.View.{plugin_at, view}
use Rattle.memory.specs.Writes.{find_at}
use Rattle.memory.specs.Known.{at_place, at_lookup, none_lookup}
use Rattle.memory_places.specs.Changes.{free_at}
use Rattle.ports_realms.specs.Halving.{reached}
use Rattle.ports_realms.proofs.Reached.{good_reached}
use Rattle.ports.specs.Places.{length_pairs, length_flat, pairs_flat, flat_pairs_even}
use Rattle.ports_realms.specs.Rows.{good_realms}
use Rattle.ports_resolved.specs.declared.Claimed.{Claimed}
use Rattle.ports_resolved.specs.Keys.{claims_of}
use Rattle.ports_resolved.specs.Filled.{listed_words}
use Rattle.ports_resolved.specs.Answers.{map_resolve, claims_law}
use Rattle.ports_inherited.specs.declared.Dependencies.{Dependencies}
use Rattle.ports_inherited.specs.Blocks.{fitted}
use Rattle.ports_inherited.specs.Answers.{dependency_law, fitted_law, fitted_long}
use Rattle.rules.specs.Answers.{verdict}
use Rattle.rules_laws.specs.Laws.Verdicts.{passes}
use Rattle.registry_register.specs.Verdicts.{under, place_above}
use Rattle.registry_register.specs.Runs.{under_passed, under_refused, asks, claims, room, early_refuses, claims_refuse, late_refuses, all_pass}
use Rattle.registry_register.specs.Parts.{dependencies_at, claims_in, list_in}
use Rattle.registry_register.specs.Written.{definition, new_entry, written_at, added_to, late_verdict, settled_answer, settled_words}
use Rattle.rules.specs.Answers.{number_answer}

-- a list that is too long is refused by its count too
room_fitted : (r : Registry) (u : ℕ) (l : List Port) (c : ℕ)
    → verdict (room_checks r (fitted l).count (u + ((fitted l).count + c))) ≡ verdict (room_checks r (length l) (u + (length l + c)))
unfolding verdict
room_fitted r u l c = by_test (leb (length l) max_dependencies)
    (λ t. ap (λ n. verdict (room_checks r n (u + (n + c)))) (fitted_law l (leb-true _ _ t)).counted)
    (λ f. let h = leb-false _ _ f in rw (fitted_long l h, lt-ltb max_dependencies (length l) h))

module _ (m : List ℕ) (parent : Option ℕ) (anchor : Port) (zs ks vs : List ℕ) (payload : ℕ) where
  abbrev r : Registry
  r = view m

  abbrev d : Definition
  d = definition parent anchor zs ks vs payload

  -- the parent's rows are its dependencies
  inherits : pairs (dependencies_at m (place_above m parent)) ≡ inherited_from (parent_of r parent)
  unfolding plugin_at
  inherits = of parent
    where
      at : (id : ℕ) (p : Option ℕ) → find_at m id ≡ p → pairs (dependencies_at m p) ≡ inherited_from (parent_of r ((Some id)))
      at id None e = rw (none_lookup m id e)
      at id (Some i) e = rw (at_lookup m id i e) (ap (λ k. pairs (dep_part m k)) (at_place m id i e))

      of : (p : Option ℕ) → pairs (dependencies_at m (place_above m p)) ≡ inherited_from (parent_of r p)
      of None = refl
      of (Some id) = at id (find_at m id) refl

  abbrev Told : Refusal → Type 0
  Told x = (Refused (number x) [] ≡ answer_of (register r d)) × (m ≡ added_to m (register r d))

  refused : (x : Refusal) → register r d ≡ refuses x [] → Told x
  unfolding left_by
  refused x w = (rw w, rw w)

  new_rows : rows_of (new_plugin r d) ≡ length (dependencies_of r d) + length (claimed d)
  unfolding new_plugin
  new_rows = omega (arith, length-map (resolved d d.provisions) unoffered)

  abbrev early : Result (Option ℕ) Refusal
  early = under (place_above m parent) (verdict (asks r d))

  pub early_told : (x : Refusal) → Err x ≡ early → Told x
  early_told x z = refused x (early_refuses r d x (under_refused _ _ x (sym z)))

  module _ (above : Option ℕ) (passed : Ok above ≡ early) (c : Claimed) (made : c ≡ claims_in zs anchor vs)
      (cw : List ℕ) (front : cw ≡ take (c.count * 2) c.ports) where
    e : verdict (asks r d) ≡ Ok tt
    e = (under_passed (place_above m parent) (verdict (asks r d)) above (sym passed)).0

    place : place_above m parent ≡ above
    place = (under_passed (place_above m parent) (verdict (asks r d)) above (sym passed)).1

    good : bad_realms (drop 2 zs) ≡ false
    good = (passes (asks r d) e).1.0

    reaches : reached (pairs (drop 2 zs)) ≡ pairs (drop 2 zs)
    reaches = good_reached (drop 2 zs) good

    few : (ltb max_dependency_keys (length ks) ≡ false) × (ltb max_provision_keys (length vs) ≡ false)
    few = neither (ltb max_dependency_keys (length ks)) (ltb max_provision_keys (length vs)) (passes (asks r d) e).1.1.0

    few_keys : length ks ≤ max_dependency_keys
    few_keys = ltb-false _ _ few.0

    few_provisions : length vs ≤ max_provision_keys
    few_provisions = ltb-false _ _ few.1

    claim_words_lem : cw ≡ flat (claimed d)
    unfolding realm_list
    claim_words_lem =
        front
        ∙ ap (λ (x : Claimed). take (x.count * 2) x.ports) (made ∙ ap (λ (rows : List Port). claims_of (realms_of zs).other rows anchor vs) reaches)
        ∙ listed_words (claims_law (realms_of zs).other (pairs (drop 2 zs)) anchor vs few_provisions)
        ∙ ap (λ ps. flat (anchor ∷ ps)) (sym (map_resolve (realms_of zs) vs))

    claim_ports : pairs cw ≡ claimed d
    claim_ports = ap pairs claim_words_lem ∙ pairs_flat (claimed d)

    claim_count : length cw / 2 ≡ length (claimed d)
    claim_count = omega (arith, ap length claim_words_lem, length_flat (claimed d))

    taken : verdict (claim_checks r (pairs cw)) ≡ verdict (claims r d)
    taken = ap (λ ps. verdict (claim_checks r ps)) claim_ports

    pub claims_told : (x : Refusal) → Err x ≡ verdict (claim_checks r (pairs cw)) → Told x
    claims_told x z = refused x (claims_refuse r d e x (sym (z ∙ taken)))

    module _ (free : Ok tt ≡ verdict (claim_checks r (pairs cw))) (l : Dependencies) (listed : l ≡ list_in m above anchor zs ks cw)
        (dw : List ℕ) (first : dw ≡ take (l.count * 2) l.ports) where
      none_taken : verdict (claims r d) ≡ Ok tt
      none_taken = sym (free ∙ taken)

      provisions : pairs (part cw 2 (length cw)) ≡ resolved d vs
      provisions =
          ap pairs (take_all (length cw) (drop 2 cw) (simp length-drop (omega arith)) ∙ ap (drop 2) claim_words_lem) ∙ pairs_flat (resolved d vs)

      list : l ≡ fitted (dependencies_of r d)
      unfolding dependencies_of realm_list
      list =
          listed
          ∙ ap fitted ((λ i. dependency_list (record { rows = reaches i; other = (realms_of zs).other }) (provisions i) anchor (take max_dependency_keys ks)
          ((ap (λ p. pairs (dependencies_at m p)) (sym place) ∙ inherits) i))
          ∙ dependency_law (realms_of zs) (resolved d vs) anchor ks (inherited_from (parent_of r parent)) few_keys)

      late_is : late_verdict m l.count cw ≡ verdict (room r d)
      late_is =
          (λ i. verdict (room_checks r (list i).count (rows_in_use r + ((list i).count + claim_count i))))
          ∙ room_fitted r (rows_in_use r) (dependencies_of r d) (length (claimed d))
          ∙ ap (λ n. verdict (room_checks r (length (dependencies_of r d)) (rows_in_use r + n))) (sym new_rows)

      module _ (z : late_verdict m l.count cw ≡ Ok tt) where
        accepted : register r d ≡ adds (new_plugin r d) (r.next ∷ [])
        accepted = all_pass r d e none_taken (sym late_is ∙ z)

        fits : length (dependencies_of r d) ≤ max_dependencies
        fits = ltb-false _ _ (passes (room r d) (sym late_is ∙ z)).1.1.0

        list_count : l.count ≡ length (dependencies_of r d)
        list_count = ap (λ (x : Dependencies). x.count) list ∙ (fitted_law (dependencies_of r d) fits).counted

        list_words_lem : dw ≡ flat (dependencies_of r d)
        list_words_lem = first ∙ ap (λ (x : Dependencies). take (x.count * 2) x.ports) list ∙ listed_words (fitted_law (dependencies_of r d) fits)

        provision_count : length cw / 2 - 1 ≡ length (map unoffered (resolved d vs))
        provision_count = omega (arith, claim_count, length-map (resolved d vs) unoffered)

        all_claims : cw ≡ flat (anchor ∷ provided (new_plugin r d))
        all_claims = claim_words_lem ∙ ap (λ ps. flat (anchor ∷ ps)) (sym (new_ports r d))

        realm_words_lem : drop 2 zs ≡ flat (pairs (drop 2 zs))
        realm_words_lem = sym (flat_pairs_even (drop 2 zs) (good_realms (drop 2 zs) good).0)

        written : written_at m (free_at m)
            (new_entry m parent payload (realm_list zs).edition l.count (length cw / 2 - 1) (length (drop 2 zs) / 2)) dw cw (drop 2 zs)
            ≡ added_to m (adds (new_plugin r d) (r.next ∷ []))
        unfolding left_by new_plugin realm_list
        written = λ i.
            written_at m (free_at m)
            (new_entry m parent payload (realm_list zs).edition (list_count i) (provision_count i) (sym (length_pairs (drop 2 zs)) i))
            (list_words_lem i) (all_claims i) (realm_words_lem i)

      pub settled_told : (x : Result ℕ Refusal) → number_answer x ≡ settled_answer m l.count cw
          → (m' : List ℕ) → m' ≡ settled_words m parent payload l.count dw cw zs
          → (number_answer x ≡ answer_of (register r d)) × (m' ≡ added_to m (register r d))
      unfolding settled_answer settled_words view
      settled_told x a m' b = by (late_verdict m l.count cw) refl
        where
          by : (v : Result Unit Refusal) → late_verdict m l.count cw ≡ v → (number_answer x ≡ answer_of (register r d)) × (m' ≡ added_to m (register r d))
          by (Ok u) z = (a ∙ rw z (rw (accepted z)), b ∙ rw z (written z ∙ ap (added_to m) (sym (accepted z))))
          by (Err y) z = let w = refused y (late_refuses r d e none_taken y (sym late_is ∙ z)) in (a ∙ rw z w.0, b ∙ rw z w.1)
