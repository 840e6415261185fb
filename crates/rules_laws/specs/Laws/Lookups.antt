-- How an outcome changes a lookup.
use Rattle.std.specs.Prelude.{ℕ, suc, ◌<◌, ◌≡◌, refl, false, [], ◌∷◌, map, eqb, length, Option, Some, None}
use Rattle.std.proofs.Common.{arith, sym, ap, ◌∙◌, eqb-true, eq-eqb, ne_eqb}
use Rattle.std.proofs.lemmas.Bool.{eqb-false}
use Rattle.rules.specs.Basics.{first}
use Rattle.rules.specs.Holds.{Plugin, Places, Registry, held, lookup}
use Rattle.rules.specs.Outcomes.{stored_at, freed_at, at_lowest_free}
use Rattle.rules_laws.specs.Laws.Tests.{by_test}

abbrev pub find : ℕ → Places → Option Plugin
find x ps = first (λ (p : Plugin). eqb p.id x) (held ps)

-- what is found has the id
pub find_id : (x : ℕ) (ps : Places) (p : Plugin) → find x ps ≡ Some p → p.id ≡ x
find_id x [] p e = cc
find_id x (None ∷ ps) p e = find_id x ps p e
find_id x (Some q ∷ ps) p e =
    let r = find_id x ps p in
    by_test (eqb q.id x)
    (λ t. let h : Some q ≡ Some p = rw t at e in let i = eqb-true q.id x t in cc)
    (λ f. r (rw f at e))

pub lookup_id : (r : Registry) (x : ℕ) (p : Plugin) → lookup r x ≡ Some p → p.id ≡ x
unfolding lookup
lookup_id r x p e = find_id x r.places p e

pub stored_same : (x : ℕ) (ps : Places) (p q : Plugin) → q.id ≡ x → find x ps ≡ Some p → find x (map (stored_at q) ps) ≡ Some q
stored_same x [] p q i e = cc
stored_same x (None ∷ ps) p q i e = stored_same x ps p q i e
stored_same x (Some s ∷ ps) p q i e =
    let r = stored_same x ps p q i in
    by_test (eqb s.id x)
    (λ t. rw (eq-eqb s.id q.id (eqb-true s.id x t ∙ sym i)) (rw (eq-eqb q.id x i)))
    (λ f. rw (ne_eqb s.id q.id (λ h. eqb-false s.id x f (h ∙ i))) (rw f (r (rw f at e))))

pub stored_other : (x : ℕ) (ps : Places) (q : Plugin) → eqb q.id x ≡ false → find x (map (stored_at q) ps) ≡ find x ps
stored_other x [] q n = refl
stored_other x (None ∷ ps) q n = stored_other x ps q n
stored_other x (Some s ∷ ps) q n =
    let r = stored_other x ps q n in
    by_test (eqb s.id q.id)
    (λ t. let i = eqb-true s.id q.id t in rw (t, n, i) (rw n r))
    (λ f. rw (f, r))

pub freed_same : (x : ℕ) (ps : Places) → find x (map (freed_at x) ps) ≡ None
freed_same x [] = refl
freed_same x (None ∷ ps) = freed_same x ps
freed_same x (Some s ∷ ps) =
    let r = freed_same x ps in
    by_test (eqb s.id x) (λ t. rw t r) (λ f. rw f (rw f r))

pub freed_other : (x y : ℕ) (ps : Places) → eqb x y ≡ false → find y (map (freed_at x) ps) ≡ find y ps
freed_other x y [] n = refl
freed_other x y (None ∷ ps) n = freed_other x y ps n
freed_other x y (Some s ∷ ps) n =
    let r = freed_other x y ps n in
    by_test (eqb s.id x)
    (λ t. let i = eqb-true s.id x t in rw t (rw (i, n) r))
    (λ f. rw f (rw r))

-- there is a free place where fewer plugins are held than there are places
pub added_same : (ps : Places) (q : Plugin) → find q.id ps ≡ None → length (held ps) < length ps → find q.id (at_lowest_free q ps) ≡ Some q
added_same [] q e l = let z : ◌≡◌ {A = ℕ} 0 1 = omega arith in cc
added_same (None ∷ ps) q e l = rw (eq-eqb q.id q.id refl)
added_same (Some s ∷ ps) q e l =
    by_test (eqb s.id q.id)
    (λ t. let h : Some s ≡ None = rw t at e in cc)
    (λ f. rw f (added_same ps q (rw f at e) (omega arith)))

pub added_other : (y : ℕ) (ps : Places) (q : Plugin) → eqb q.id y ≡ false → find y (at_lowest_free q ps) ≡ find y ps
added_other y [] q n = refl
added_other y (None ∷ ps) q n = rw n
added_other y (Some s ∷ ps) q n = rw (added_other y ps q n)

pub length_stored : (ps : Places) (q : Plugin) → length (map (stored_at q) ps) ≡ length ps
length_stored [] q = refl
length_stored (s ∷ ps) q = ap suc (length_stored ps q)

pub length_freed : (ps : Places) (x : ℕ) → length (map (freed_at x) ps) ≡ length ps
length_freed [] x = refl
length_freed (s ∷ ps) x = ap suc (length_freed ps x)

pub length_added : (ps : Places) (q : Plugin) → length (at_lowest_free q ps) ≡ length ps
length_added [] q = refl
length_added (None ∷ ps) q = refl
length_added (Some s ∷ ps) q = ap suc (length_added ps q)
