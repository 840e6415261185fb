-- Where all ports differ, a port's first provider is its only one: so available is what [4] says of a dependency.
use Rattle.std.specs.Prelude.{◌≡◌, refl, Bool, false, ◌&&◌, List, [], ◌∷◌}
use Rattle.std.proofs.Common.{sym, ap, ◌∙◌}
use Rattle.std.proofs.Math.Bool.{and-true, and-false, or-false}
use Rattle.rules_types.specs.declared.Port.{Port}
use Rattle.rules.specs.Basics.{all, first, holds, ◌⊃◌}
use Rattle.rules.specs.Holds.{Plugin, Registry, plugins, provides, provider, is_active, running}
use Rattle.rules.specs.Registration.{repeats}
use Rattle.rules.specs.Phases.{available}
use Rattle.rules.specs.Conditions.{claims, claims_of, active_in, dependencies_served}
use Rattle.rules_laws.specs.Laws.Tests.{by_test}
use Rattle.rules_load.specs.Laws.Lists.{any_none}
use Rattle.rules_load.specs.Laws.Claims.{repeats_split, provides_claims, claimed}

first_active : (l : List Plugin) (k : Port) → repeats (claims_of l) ≡ false
    → holds (λ (p : Plugin). is_active p.phase) (first (λ (p : Plugin). provides p k) l) ≡ active_in l k
first_active [] k e = refl
first_active (p ∷ l) k e =
    let w = repeats_split (claims p) (claims_of l) e in
    let rest = first_active l k w.1 in
    by_test (provides p k)
    (λ y. let alone : active_in l k ≡ false = any_none (λ (q : Plugin). is_active q.phase && provides q k) l λ q m. by_test (provides q k)
    (λ z. absurd (w.2 k (sym (provides_claims p k) ∙ y) (claimed l q k m z)))
    (λ n. rw (n, and-false (is_active q.phase))) in
    rw (y, alone, and-true (is_active p.phase), or-false (is_active p.phase)))
    (λ n. rw (n, and-false (is_active p.phase)) rest)

module _ (r : Registry) (e : repeats (claims_of (plugins r)) ≡ false) where
  pub available_active : (k : Port) → available r k ≡ active_in (plugins r) k
  unfolding provider
  available_active k = first_active (plugins r) k e

  pub available_served : all (λ (p : Plugin). running p ⊃ all (available r) p.dependencies) (plugins r) ≡ all (dependencies_served (plugins r)) (plugins r)
  available_served = ap (λ (f : Port → Bool). all (λ (p : Plugin). running p ⊃ all f p.dependencies) (plugins r)) (λ i k. available_active k i)
