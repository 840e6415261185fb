-- What a registration that passes its checks gives: the new plugin may come in.
use Rattle.std.specs.Prelude.{ℕ, refl, true, false, not, ◌&&◌, ◌||◌, eqb, length, Option, Some, None}
use Rattle.std.proofs.Common.{arith, sym, ap, ◌∙◌, subst, true≢false, inl, inr}
use Rattle.std.proofs.Math.Path.{◌≡◌}
use Rattle.std.proofs.Math.Bool.{or-true}
use mathlib.Core.List.{List, [], ◌∷◌, map, map-map, map-id}
use Rattle.std.proofs.Math.Dec.{ltb}
use Rattle.std.proofs.lemmas.List.{length-map}
use Rattle.std.proofs.Math.ListN.{drop}
use borrow.Author.Tests.{eqb-true, eqb-false, ltb-false, leb-false, not-false}
use Rattle.rules.specs.Basics.{any, is_some, is_none, twice, last}
use Rattle.rules_types.specs.declared.Port.{Port}
use Rattle.rules.specs.Holds.{Realms, Provision, Plugin, Registry, lookup, provider, provided, same_port, is_in}
use Rattle.rules.specs.Ports.{pairs, odd_length, rising, bad_realms, realm_list, realms_of, resolve}
use Rattle.rules.specs.Registration.{Definition, parent_of, inherited_from, resolved, claimed, unoffered, repeats, dependencies_of, new_plugin, registration_checks}
use Rattle.rules_laws.specs.Laws.Tests.{by_test, neither, Passed}
use Rattle.rules_laws.specs.Laws.Members.{In, any_false, same_port_lem, same_self, is_in_lem}
use Rattle.rules_laws.specs.Laws.Realms.{resolve_key_law}
use Rattle.rules_laws.specs.Built.{Shaped, Ruled, Lively}
use Rattle.rules_laws.specs.Kept.Plugins.{unvalued}
use Rattle.rules_laws.specs.Kept.Moves.{Join}
use Rattle.rules.specs.Limits.{max_rows, max_dependency_keys, max_provision_keys, max_dependencies, max_realm_rows}

-- what a key resolved to resolves to itself
resolved_in_lem : (z : Realms) (keys : List ℕ) (q : Port) → In q (map (resolve z) keys) → resolve z q.key ≡ q
unfolding resolve
resolved_in_lem z [] q h = elim h [ ]
resolved_in_lem z (k ∷ keys) q (inl i) = subst (λ q. resolve z q.key ≡ q) i (ap (resolve z) (resolve_key_law z.other z.rows k))
resolved_in_lem z (k ∷ keys) q (inr m) = resolved_in_lem z keys q m

claims_in_lem : (k a : Port) (l : List Port) → (is_in k l || same_port k a) ≡ true → In k (a ∷ l)
claims_in_lem k a l e = by_test (is_in k l)
    (λ y. inr (is_in_lem k l y))
    (λ n. inl (same_port_lem k a (rw n at e)))

there : (u : Option Plugin) → is_none u ≡ false → is_some u ≡ true
there None e = sym e
there (Some p) e = refl

parent_found : (r : Registry) (u : Option ℕ) → (is_some u && is_none (parent_of r u)) ≡ false → (x : ℕ) → u ≡ Some x → is_some (lookup r x) ≡ true
parent_found r None e x i = cc
parent_found r (Some y) e x i = let j : y ≡ x = cc in subst (λ x. is_some (lookup r x) ≡ true) j (there (lookup r y) e)

-- like keys resolve alike, so where no two ports are alike no two keys are
key_found : (z : Realms) (k : ℕ) (keys : List ℕ) → any (eqb k) keys ≡ true → is_in (resolve z k) (map (resolve z) keys) ≡ true
key_found z k [] e = e
key_found z k (l ∷ keys) e = by_test (eqb k l)
    (λ y. rw (eqb-true k l y) (rw (same_self (resolve z l))))
    (λ n. rw (key_found z k keys (rw n at e)) (or-true (same_port (resolve z k) (resolve z l))))

keys_differ : (z : Realms) (keys : List ℕ) → repeats (map (resolve z) keys) ≡ false → twice keys ≡ false
keys_differ z [] e = refl
keys_differ z (k ∷ keys) e =
    let ports = map (resolve z) keys in
    let n = neither (is_in (resolve z k) ports) (repeats ports) e in
    by_test (any (eqb k) keys)
    (λ y. absurd (true≢false (sym (key_found z k keys y) ∙ n.0)))
    (λ f. rw (f, keys_differ z keys n.1))

module _ (r : Registry) (d : Definition) where
  pub new_ports : provided (new_plugin r d) ≡ resolved d d.provisions
  unfolding new_plugin
  new_ports =
      let ports = resolved d d.provisions in
      map-map (λ (v : Provision). v.port) unoffered ports ∙ map-id ports

  new_shaped : bad_realms (drop 2 d.realms) ≡ false → ltb max_provision_keys (length d.provisions) ≡ false → repeats (claimed d) ≡ false
      → ltb max_dependencies (length (dependencies_of r d)) ≡ false → Shaped (new_plugin r d)
  unfolding new_plugin realm_list bad_realms
  new_shaped bad many twice long =
      let numbers = drop 2 d.realms in
      let rows = pairs numbers in
      let odd = neither (odd_length numbers || ltb max_realm_rows (length rows)) (not (rising rows)) bad in
      record {
        realm_rows_lem = ltb-false max_realm_rows (length rows) (neither (odd_length numbers) (ltb max_realm_rows (length rows)) odd.0).1;
        rise = not-false (rising rows) odd.1;
        provisions = rw (length-map, length-map) (ltb-false max_provision_keys _ many);
        dependencies = ltb-false max_dependencies _ long;
        resolved = λ q m. resolved_in_lem (realms_of d.realms) d.provisions q (subst (In q) new_ports m);
        apart = rw new_ports twice;
      }

  -- the declared keys give it
  new_ruled : ltb max_dependency_keys (length d.dependencies) ≡ false → repeats (resolved d d.dependencies) ≡ false
      → Ruled (inherited_from (parent_of r d.parent)) (new_plugin r d)
  unfolding new_plugin dependencies_of
  new_ruled many alike = record {
    keys = d.dependencies;
    few = ltb-false max_dependency_keys _ many;
    differ = keys_differ (realms_of d.realms) d.dependencies alike;
    gives = rw new_ports;
  }

  new_lively : Lively (new_plugin r d)
  unfolding new_plugin
  new_lively = record {
    idle_root = λ _. refl;
    idle_values = λ _. unvalued unoffered (λ _. refl) (resolved d d.provisions);
    active_root = λ i. cc;
    active_values = λ i. cc;
    begun = λ i. let z : ◌≡◌ {A = ℕ} 0 1 = cc in omega arith;
    queued = λ v a i. let z : ◌≡◌ {A = ℕ} 0 1 = cc in omega arith;
    revision = omega arith;
    generation = omega arith;
  }

  pub new_joins : Passed (registration_checks r d) → Join r (new_plugin r d)
  unfolding new_plugin
  new_joins passed =
      let c = passed.1 in
      let ports = c.1.1.1.1.1.1 in
      let limits = ports.1.1 in
      let keys = neither (ltb max_dependency_keys (length d.dependencies)) (ltb max_provision_keys (length d.provisions)) c.1.0 in
      record {
        id = refl;
        ids = eqb-false r.next last limits.0;
        room = leb-false _ _ limits.1.0;
        rows = ltb-false max_rows _ limits.1.1.1.0;
        parent = parent_found r d.parent c.1.1.0;
        shaped = new_shaped c.0 keys.1 ports.0 limits.1.1.0;
        ruled = new_ruled keys.0 c.1.1.1.1.1.0;
        lively = new_lively;
        rests = refl;
        untaken = λ k h. any_false (λ q. is_some (provider r q)) (claimed d) k ports.1.0
            (claims_in_lem k d.anchor (resolved d d.provisions) (rw new_ports at h));
      }
