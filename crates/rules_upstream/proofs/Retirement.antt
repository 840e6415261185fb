-- Upstream's clauses on R's retirement by child identity.
use Rattle.std.specs.Prelude.{ℕ, ◌≡◌, true, eqb, Option, Some}
use Rattle.std.proofs.Common.{sym, ap, ◌∙◌, subst, eqb-true}
use Rattle.rules.specs.Basics.{holds}
use Rattle.rules.specs.Holds.{Plugin, Registry, lookup}
use Rattle.rules.specs.Retirement.{Identity, retire_child}
use Rattle.rules_laws.specs.Laws.Tests.{both}
use Rattle.rules_upstream.specs.Accepted.{accepted, held_by}
use Rattle.rules_upstream.specs.Retirement.{retirable, retire_child_exactly}

module _ (r : Registry) (c : Identity) where
  -- R retire_child: accepted only if the domain agrees and a registered child has the parent named.
  pub retire_child_agrees : accepted (retire_child r c) ≡ true
      → (c.domain ≡ r.domain) × ((p : Plugin) → lookup r c.id ≡ Some p → p.parent ≡ Some c.parent)
  retire_child_agrees e =
      let t = both _ _ (sym (retire_child_exactly r c) ∙ e) in
      (eqb-true c.domain r.domain (both _ _ t.0).0, λ p f. child p.parent (both _ _ (subst (λ u. retirable c.parent u ≡ true) f t.1)).0)
    where
      child : (u : Option ℕ) → holds (eqb c.parent) u ≡ true → u ≡ Some c.parent
      child u h = let (x, f, i) = held_by _ u h in f ∙ ap Some (sym (eqb-true c.parent x i))
