-- Upstream's clauses on R's retirement by child identity.
use Rattle.std.specs.Prelude.{ℕ, ◌≡◌, refl, Bool, true, not, ◌&&◌, ◌||◌, [], ◌∷◌, eqb, ltb, leb, Option, Some, None}
use Rattle.rules.specs.Basics.{is_none}
use Rattle.rules.specs.Holds.{Plugin, Registry, lookup, with_retired}
use Rattle.rules.specs.Outcomes.{Accepted, answer_of, after, found}
use Rattle.rules.specs.Retirement.{Identity, is_child_of, retire_found, retire_child, identity, child_identity}
use Rattle.rules.specs.Values.{is_empty}
use Rattle.rules_laws.specs.Laws.Tests.{checked_elim}
use Rattle.rules_laws.specs.Laws.Lookups.{lookup_id}
use Rattle.rules_laws.specs.Kept.Plugins.{alike}
use Rattle.rules_upstream.specs.Accepted.{accepted, exact, Effect, When, when_passed, has_effect}

-- a child that isn't registered, or a child of this parent that isn't retired
abbrev pub retirable : ℕ → Option Plugin → Bool
retirable parent None = true
retirable parent (Some p) = is_child_of parent p && not p.retired

retire_found_lem : (parent : ℕ) (u : Option Plugin) → accepted (retire_found parent u) ≡ retirable parent u
retire_found_lem parent None = refl
retire_found_lem parent (Some p) = simp exact

module _ (r : Registry) (c : Identity) where
  -- R retire_child: R never says when it is accepted; here exactly so,
  pub retire_child_exactly : accepted (retire_child r c)
      ≡ (eqb c.domain r.domain && not (ltb c.id r.first || leb r.next c.id) && retirable c.parent (lookup r c.id))
  unfolding retire_child
  retire_child_exactly = simp (exact, retire_found_lem)

  -- .. it sets the retired mark of a registered child,
  pub retire_child_effect : (p : Plugin) → lookup r c.id ≡ Some p → When (Effect r c.id (λ _. []) (with_retired true)) (retire_child r c)
  unfolding retire_child
  retire_child_effect p e = rw e (when_passed (Effect r _ _ _) _ _ λ _. when_passed (Effect r _ _ _) _ _ λ _ _. has_effect r _ _ _ p e (alike p refl))

  -- .. and changes nothing for one that isn't registered.
  pub retire_child_removed : lookup r c.id ≡ None → after r (retire_child r c) ≡ r
  unfolding retire_child after
  retire_child_removed e = rw e (checked_elim (λ u. after r u ≡ r) _ _ (λ x. refl) (λ _. refl))

-- R child_identity: none exactly without a parent;
pub child_identity_lem : (d id : ℕ) (u : Option ℕ) → is_empty (identity d id u) ≡ is_none u
child_identity_lem d id None = refl
child_identity_lem d id (Some x) = refl

-- .. with one, the registry's domain, the parent and the plugin's id.
pub child_identity_tells : (r : Registry) (id x : ℕ) (p : Plugin) → lookup r id ≡ Some p → p.parent ≡ Some x
    → answer_of (child_identity r id) ≡ Accepted (r.domain ∷ x ∷ p.id ∷ [])
unfolding child_identity found
child_identity_tells r id x p e f = rw (e, lookup_id r id p e) (rw f)
