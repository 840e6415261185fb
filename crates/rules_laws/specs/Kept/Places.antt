-- What a store, an addition and a removal change in the places: only what stands under one id, and no id comes to stand twice.
use Rattle.std.specs.Prelude.{ℕ, ◌<◌, ◌≡◌, false, List, [], ◌∷◌, map, ◌⊎◌, eqb, length, Option, Some, None}
use Rattle.std.proofs.Common.{arith, sym, ap, ◌∙◌, eqb-true, ne_eqb}
use Rattle.std.proofs.Math.Path.{refl}
use Rattle.std.proofs.Math.Logic.{inl, inr, ⊎_elim}
use Rattle.std.proofs.lemmas.Bool.{eqb-false}
use Rattle.rules.specs.Basics.{any, twice}
use Rattle.rules.specs.Holds.{Plugin, Places, Registry, held, plugins, lookup}
use Rattle.rules.specs.Outcomes.{stores, adds, removes, stored_at, freed_at, at_lowest_free, after}
use Rattle.rules_laws.specs.Laws.Tests.{by_test, neither}
use Rattle.rules_laws.specs.Laws.Lookups.{stored_same, stored_other, freed_same, freed_other, added_same, added_other}
use Rattle.rules_laws.specs.Laws.Members.{In, stored_in, freed_in, added_in}
use Rattle.rules_laws.specs.Laws.Once.{without, absent, once_without, found_once}
use Rattle.rules_laws.specs.Built.{ids_of}

-- Under id, r has u and r' has u'; of every other id they have the same.
pub record Only (r r' : Registry) (id : ℕ) (u u' : Option Plugin) : Type 0 where
  pub was : lookup r id ≡ u
  pub now : lookup r' id ≡ u'
  pub other : (x : ℕ) → eqb id x ≡ false → lookup r' x ≡ lookup r x
  pub members : (a : Plugin) → In a (plugins r') → (u' ≡ Some a) ⊎ (In a (plugins r) × (eqb id a.id ≡ false))

-- the ids after a store, a removal and an addition
ids_stored : (ps : Places) (q : Plugin) → ids_of (held (map (stored_at q) ps)) ≡ ids_of (held ps)
ids_stored [] q = refl
ids_stored (None ∷ ps) q = ids_stored ps q
ids_stored (Some s ∷ ps) q = by_test (eqb s.id q.id)
    (λ y. rw (y, ids_stored ps q) (ap (λ x. x ∷ ids_of (held ps)) (sym (eqb-true s.id q.id y))))
    (λ n. rw (n, ids_stored ps q))

pub held_freed : (ps : Places) (x : ℕ) → held (map (freed_at x) ps) ≡ without (λ (p : Plugin). p.id) x (held ps)
held_freed [] x = refl
held_freed (None ∷ ps) x = held_freed ps x
held_freed (Some s ∷ ps) x =
    let r = held_freed ps x in
    by_test (eqb s.id x) (λ y. rw y r) (λ n. rw n (ap (λ l. s ∷ l) r))

any_added : (ps : Places) (q : Plugin) (n : ℕ) → eqb n q.id ≡ false → any (eqb n) (ids_of (held ps)) ≡ false
    → any (eqb n) (ids_of (held (at_lowest_free q ps))) ≡ false
any_added [] q n d e = refl
any_added (None ∷ ps) q n d e = rw (d, e)
any_added (Some s ∷ ps) q n d e =
    let h = neither (eqb n s.id) (any (eqb n) (ids_of (held ps))) e in
    rw (h.0, any_added ps q n d h.1)

once_added : (ps : Places) (q : Plugin) → any (eqb q.id) (ids_of (held ps)) ≡ false → twice (ids_of (held ps)) ≡ false
    → twice (ids_of (held (at_lowest_free q ps))) ≡ false
once_added [] q d e = refl
once_added (None ∷ ps) q d e = rw (d, e)
once_added (Some s ∷ ps) q d e =
    let h = neither (any (eqb s.id) (ids_of (held ps))) (twice (ids_of (held ps))) e in
    let g = neither (eqb q.id s.id) (any (eqb q.id) (ids_of (held ps))) d in
    let n = ne_eqb s.id q.id (λ i. eqb-false q.id s.id g.0 (sym i)) in
    rw (any_added ps q s.id n h.0, once_added ps q g.1 h.1)

-- where no id stands in two places, a registered plugin is what its id finds
pub distinct : (r : Registry) → twice (ids_of (plugins r)) ≡ false → (a : Plugin) → In a (plugins r) → lookup r a.id ≡ Some a
unfolding lookup
distinct r h a m = found_once (λ (p : Plugin). p.id) (plugins r) a h m

module _ (r : Registry) (vs : List ℕ) (h : twice (ids_of (plugins r)) ≡ false) where
  pub stored_once : (q : Plugin) → twice (ids_of (plugins (after r (stores q vs)))) ≡ false
  unfolding after
  stored_once q = rw (ids_stored r.places q) h

  pub added_once : (q : Plugin) → lookup r q.id ≡ None → twice (ids_of (plugins (after r (adds q vs)))) ≡ false
  unfolding after lookup
  added_once q e = once_added r.places q (absent (λ (p : Plugin). p.id) q.id (plugins r) e) h

  pub freed_once : (id : ℕ) → twice (ids_of (plugins (after r (removes id vs)))) ≡ false
  unfolding after
  freed_once id = rw (held_freed r.places id) (once_without (λ (p : Plugin). p.id) id (plugins r) h)

module _ (r : Registry) (vs : List ℕ) where
  pub only_stored : (p q : Plugin) → lookup r q.id ≡ Some p → Only r (after r (stores q vs)) q.id (Some p) (Some q)
  unfolding after lookup
  only_stored p q e = record {
    was = e;
    now = stored_same q.id r.places p q refl e;
    other = λ x n. stored_other x r.places q n;
    members = λ a m. ⊎_elim (λ i. inl (ap Some (sym i))) inr (stored_in r.places q a m);
  }

  pub only_freed : (id : ℕ) (p : Plugin) → lookup r id ≡ Some p → Only r (after r (removes id vs)) id (Some p) None
  unfolding after lookup
  only_freed id p e = record {
    was = e;
    now = freed_same id r.places;
    other = λ x n. freed_other id x r.places n;
    members = λ a m. inr (freed_in r.places id a m);
  }

  -- a registered plugin has another id than one under which nothing stands
  apart : twice (ids_of (plugins r)) ≡ false → (id : ℕ) → lookup r id ≡ None → (a : Plugin) → In a (plugins r) → eqb id a.id ≡ false
  apart h id e a m = ne_eqb id a.id λ j.
      let i : lookup r id ≡ Some a = ap (lookup r) j ∙ distinct r h a m in
      let z : ◌≡◌ {A = ℕ} 0 1 = cc in
      omega arith

  pub only_added : twice (ids_of (plugins r)) ≡ false → (q : Plugin) → lookup r q.id ≡ None → length (plugins r) < length r.places
      → Only r (after r (adds q vs)) q.id None (Some q)
  unfolding after lookup
  only_added h q e l = record {
    was = e;
    now = added_same r.places q e l;
    other = λ x n. added_other x r.places q n;
    members = λ a m. ⊎_elim (λ i. inl (ap Some (sym i))) (λ n. inr (n, apart h q.id e a n)) (added_in r.places q a m);
  }
