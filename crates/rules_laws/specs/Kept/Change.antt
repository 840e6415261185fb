-- A registry stays Built where one plugin changes.
use Rattle.std.specs.Prelude.{ℕ, ◌≤◌, ◌≡◌, true, false, eqb, length, Option, Some}
use Rattle.std.proofs.Common.{arith, sym, ap, ◌∙◌, subst, ⊎_elim, eqb-true}
use Rattle.std.proofs.Math.Path.{subst⁻¹}
use Rattle.rules.specs.Basics.{is_some, twice, last}
use Rattle.rules.specs.Holds.{Plugin, Registry, plugins, lookup, rows_in_use}
use Rattle.rules.specs.Registration.{parent_of, inherited_from}
use Rattle.rules_laws.specs.Laws.Tests.{by_test}
use Rattle.rules_laws.specs.Laws.Members.{In}
use Rattle.rules_laws.specs.Built.{ids_of, Ruled, Ranked, Member, Built}
use Rattle.rules_laws.specs.Kept.Places.{Only}
use Rattle.rules_laws.specs.Kept.Wiring.{IfSome, Rewired, rewired}
use Rattle.rules_laws.specs.Kept.Rule.{parents_stay}
use Rattle.rules.specs.Limits.{max_rows}

-- a registered parent is still registered
pub found_after : (r r' : Registry) (id : ℕ) (u u' : Option Plugin) → Only r r' id u u' → (x : ℕ) → (id ≡ x → is_some u' ≡ true)
    → is_some (lookup r x) ≡ true → is_some (lookup r' x) ≡ true
found_after r r' id u u' o x h e = by_test (eqb id x)
    (λ y. let i = eqb-true id x y in subst (λ v. is_some v ≡ true) (sym o.now ∙ ap (lookup r') i) (h i))
    (λ n. rw (o.other x n) e)

-- From r with u under id to r' with u' there.
pub record Change (r r' : Registry) (id : ℕ) (u u' : Option Plugin) : Type 0 where
  pub only : Only r r' id u u'
  pub wiring : Rewired r id u u'
  pub room : length r'.places ≡ length r.places
  pub first : r'.first ≡ r.first
  pub next : r.next ≤ r'.next
  pub ids : r'.next ≤ last
  pub rows : rows_in_use r' ≤ max_rows
  pub once : twice (ids_of (plugins r')) ≡ false
  pub member : IfSome (Member r') u'
  -- it is still there if it is a parent
  pub parents : (a : Plugin) → In a (plugins r) → a.parent ≡ Some id → is_some u' ≡ true
  -- and then with the list that it had
  pub lists : (a : Plugin) → In a (plugins r) → a.parent ≡ Some id → inherited_from u' ≡ inherited_from u
  pub ruled : IfSome (λ a. Ruled (inherited_from (parent_of r' a.parent)) a) u'
  pub ranked : Ranked (plugins r')

pub built_after : (r r' : Registry) (id : ℕ) (u u' : Option Plugin) → Built r → Change r r' id u u' → Built r'
built_after r r' id u u' b c = record {
  room = c.room ∙ b.room;
  first = let l = b.first in omega arith;
  next = c.ids;
  rows = c.rows;
  once = c.once;
  members = λ a m. ⊎_elim (λ i. subst (IfSome (Member r')) i c.member) (λ n. stays a n.0) (c.only.members a m);
  wired = rewired r r' id u u' b.wired c.only c.wiring;
  ruled = λ a m. ⊎_elim
      (λ i. subst (IfSome (λ a. Ruled (inherited_from (parent_of r' a.parent)) a)) i c.ruled)
      (λ n. subst (λ l. Ruled l a) (parents_stay r r' id u u' c.only a.parent (c.lists a n.0)) (b.ruled a n.0))
      (c.only.members a m);
  ranked = c.ranked;
}
  where
    stays : (a : Plugin) → In a (plugins r) → Member r' a
    stays a n =
        let m = b.members a n in
        record {
          issued = rw c.first m.issued;
          below = let l = m.below in omega arith;
          older = m.older;
          parent = λ x e. found_after r r' id u u' c.only x (λ i. c.parents a n (subst⁻¹ (λ y. a.parent ≡ Some y) i e)) (m.parent x e);
          shaped = m.shaped;
          lively = m.lively;
        }
