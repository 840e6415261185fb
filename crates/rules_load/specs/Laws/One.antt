-- One plugin: what is kept of it, and the tests on it alone; each says the other.
use Rattle.std.specs.Prelude.{◌≤◌, ◌≡◌, refl, true, false, not, ◌&&◌, leb, length}
use Rattle.std.proofs.Common.{sym, le-leb, leb-true}
use Rattle.std.proofs.lemmas.Bool.{not-true}
use Rattle.rules_types.specs.declared.Phase.TheVariants.{Idle, Active}
use Rattle.rules_types.specs.declared.Root.{Root}
use Rattle.rules_types.specs.declared.Root.TheVariants.{Unissued, Queued, Spent}
use Rattle.rules.specs.Basics.{any, all, is_none, last}
use Rattle.rules.specs.Limits.{max_provision_keys, max_realm_rows, max_dependencies}
use Rattle.rules.specs.Holds.{Provision, Plugin, provided, is_idle, is_active, table_of}
use Rattle.rules.specs.Phases.{is_spent}
use Rattle.rules.specs.Admission.{is_unissued}
use Rattle.rules.specs.Registration.{repeats}
use Rattle.rules.specs.Conditions.{lists_short, realms_rise, claims, resolved_in, provisions_resolved, begun_once}
use Rattle.rules.specs.Conditions.{idle_clean, active_whole, queued_by, queued_within}
use Rattle.rules_laws.specs.Laws.Tests.{by_test, both}
use Rattle.rules_laws.specs.Laws.Members.{all_true, same_port_lem, same_self}
use Rattle.rules_laws.specs.Laws.Table.{is_idle_lem, is_active_lem}
use Rattle.rules_laws.specs.Built.{Shaped, Lively}
use Rattle.rules_load.specs.Laws.Lists.{all_intro}

-- One plugin, from what is kept to the tests.
module _ (p : Plugin) where
  pub shaped_short : Shaped p → lists_short p ≡ true
  shaped_short s =
      rw (le-leb (length p.realms.rows) max_realm_rows s.realm_rows_lem, le-leb (length p.dependencies) max_dependencies s.dependencies)
      (le-leb (length p.provisions) max_provision_keys s.provisions)

  pub shaped_resolved : Shaped p → provisions_resolved p ≡ true
  shaped_resolved s = all_intro (resolved_in (table_of p.realms)) (provided p) (λ q m. rw (s.resolved q m) (same_self q))

  module _ (l : Lively p) where
    pub lively_begun : begun_once p ≡ true
    lively_begun = by_test (is_idle p.phase) (λ y. rw y) (λ n. rw n (le-leb 1 p.generation (l.begun n)))

    pub lively_clean : idle_clean p ≡ true
    lively_clean = by_test (is_idle p.phase)
        (λ y. let i = is_idle_lem p.phase y in rw (y, l.idle_root i) (l.idle_values i))
        (λ n. rw n)

    pub lively_whole : active_whole p ≡ true
    lively_whole = by_test (is_active p.phase)
        (λ y. let i = is_active_lem p.phase y in rw (y, l.active_root i, l.active_values i))
        (λ n. rw n)

    pub lively_queued : queued_within p ≡ true
    lively_queued = go p.root refl
      where
        go : (o : Root) → p.root ≡ o → queued_by o p.revision ≡ true
        go Unissued e = refl
        go (Queued v a) e = le-leb v p.revision (l.queued v a e)
        go Spent e = refl

-- One plugin, from the tests to what is kept.
unissued : (o : Root) → is_unissued o ≡ true → o ≡ Unissued
unissued Unissued e = refl
unissued (Queued v a) e = cc
unissued Spent e = cc

spent : (o : Root) → is_spent o ≡ true → o ≡ Spent
spent Unissued e = cc
spent (Queued v a) e = cc
spent Spent e = refl

module _ (p : Plugin) where
  pub tests_shaped : lists_short p ≡ true → realms_rise p ≡ true → provisions_resolved p ≡ true
      → repeats (claims p) ≡ false → Shaped p
  tests_shaped e rise resolved apart =
      let rows = leb (length p.realms.rows) max_realm_rows in
      let dependencies = leb (length p.dependencies) max_dependencies in
      let a = both (rows && dependencies) (leb (length p.provisions) max_provision_keys) e in
      let b = both rows dependencies a.0 in
      record {
        realm_rows_lem = leb-true _ _ b.0;
        rise = rise;
        provisions = leb-true _ _ a.1;
        dependencies = leb-true _ _ b.1;
        resolved = λ q m. sym (same_port_lem _ q (all_true (resolved_in (table_of p.realms)) (provided p) q resolved m));
        apart = apart;
      }

  pub tests_lively : begun_once p ≡ true → idle_clean p ≡ true → active_whole p ≡ true → queued_within p ≡ true
      → p.revision ≤ last → p.generation ≤ last → Lively p
  tests_lively begun clean whole queued revision generation = record {
    idle_root = λ i. unissued p.root (idle i).0;
    idle_values = λ i. (idle i).1;
    active_root = λ i. spent p.root (active i).0;
    active_values = λ i. not-true _ (active i).1;
    begun = λ n. leb-true 1 _ (rw n at begun);
    queued = λ v a i. leb-true v _ (rw i at queued);
    revision = revision;
    generation = generation;
  }
    where
      idle : p.phase ≡ Idle → (is_unissued p.root ≡ true) × (all (λ (v : Provision). is_none v.value) p.provisions ≡ true)
      idle i = both (is_unissued p.root) (all (λ (v : Provision). is_none v.value) p.provisions) (rw i at clean)

      active : p.phase ≡ Active → (is_spent p.root ≡ true) × (not (any (λ (v : Provision). is_none v.value) p.provisions) ≡ true)
      active i = both (is_spent p.root) (not (any (λ (v : Provision). is_none v.value) p.provisions)) (rw i at whole)
