-- Dependency lists stay those that the rule gives from the parent's list: no list of a parent changes.
use Rattle.std.specs.Prelude.{ℕ, ◌≡◌, refl, List, eqb, Option, Some, None}
use Rattle.std.proofs.Common.{sym, ap, ◌∙◌, eqb-true}
use Rattle.rules_types.specs.declared.Port.{Port}
use Rattle.rules.specs.Holds.{Plugin, Registry, lookup}
use Rattle.rules.specs.Registration.{parent_of, inherited_from}
use Rattle.rules_laws.specs.Laws.Tests.{by_test}
use Rattle.rules_laws.specs.Built.{Ruled}
use Rattle.rules_laws.specs.Kept.Places.{Only}
use Rattle.rules_laws.specs.Kept.Plugins.{Alike}

pub parents_stay : (r r' : Registry) (id : ℕ) (u u' : Option Plugin) → Only r r' id u u' → (v : Option ℕ)
    → (v ≡ Some id → inherited_from u' ≡ inherited_from u) → inherited_from (parent_of r v) ≡ inherited_from (parent_of r' v)
parents_stay r r' id u u' o None h = refl
parents_stay r r' id u u' o (Some x) h = by_test (eqb id x)
    (λ y. let i = eqb-true id x y in
    let was : lookup r x ≡ u = ap (lookup r) (sym i) ∙ o.was in
    let now : lookup r' x ≡ u' = ap (lookup r') (sym i) ∙ o.now in
    rw (was, now) (sym (h (ap Some (sym i)))))
    (λ n. ap inherited_from (sym (o.other x n)))

pub alike_ruled : (p q : Plugin) (parents : List Port) → Alike p q → Ruled parents p → Ruled parents q
alike_ruled p q parents s a = record {
  keys = a.keys;
  few = a.few;
  differ = a.differ;
  gives = rw (s.realms, s.provisions, s.anchor, s.dependencies) a.gives;
}
