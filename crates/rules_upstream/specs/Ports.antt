-- Upstream's clauses on R's ports and realms.
use Rattle.std.specs.Prelude.{ℕ, ◌<◌, ◌≡◌, refl, true, false, List, [], ◌∷◌, eqb, ltb}
use Rattle.std.proofs.Common.{arith, subst, inl, inr, eq-eqb, ne_eqb, ltb-true}
use Rattle.rules.specs.Basics.{any}
use Rattle.rules_types.specs.declared.Port.{Port}
use Rattle.rules.specs.Holds.{Realms, port}
use Rattle.rules.specs.Ports.{rising, resolve_in, resolve}
use Rattle.rules_laws.specs.Laws.Tests.{both, neither}
use Rattle.rules_laws.specs.Laws.Members.{In}
use Rattle.rules_laws.specs.Laws.Realms.{rising_drop}

rising_above : (x : Port) (l : List Port) (row : Port) → rising (x ∷ l) ≡ true → In row l → x.key < row.key
rising_above x [] row e h = elim h [ ]
rising_above x (y ∷ l) row e (inl i) =
    let c = both (ltb x.key y.key) (rising (y ∷ l)) e in
    subst (λ (z : Port). x.key < z.key) i (ltb-true x.key y.key c.0)
rising_above x (y ∷ l) row e (inr m) =
    let c = both (ltb x.key y.key) (rising (y ∷ l)) e in
    let a = ltb-true x.key y.key c.0 in
    let b = rising_above y l row c.1 m in
    omega arith

found_in : (other : ℕ) (l : List Port) (row : Port) → rising l ≡ true → In row l → resolve_in other l row.key ≡ row
found_in other [] row e h = elim h [ ]
found_in other (x ∷ l) row e (inl i) = subst (λ (z : Port). resolve_in other (x ∷ l) z.key ≡ z) i (rw (eq-eqb x.key x.key refl))
found_in other (x ∷ l) row e (inr m) =
    let a = rising_above x l row e m in
    rw (ne_eqb x.key row.key (λ i. omega arith)) (found_in other l row (rising_drop 1 (x ∷ l) e) m)

other_in : (other : ℕ) (l : List Port) (k : ℕ) → any (λ (x : Port). eqb x.key k) l ≡ false → resolve_in other l k ≡ port k other
other_in other [] k e = refl
other_in other (x ∷ l) k e = let c = neither (eqb x.key k) _ e in rw c.0 (other_in other l k c.1)

-- R resolved: with keys that rise a list is a map. The row of a key is found,
pub resolve_found : (z : Realms) (row : Port) → rising z.rows ≡ true → In row z.rows → resolve z row.key ≡ row
unfolding resolve
resolve_found z row e m = found_in z.other z.rows row e m

-- .. and a key without a row gets the other realm, which is the default of the list's edition.
pub resolve_other : (z : Realms) (k : ℕ) → any (λ (x : Port). eqb x.key k) z.rows ≡ false → resolve z k ≡ port k z.other
unfolding resolve
resolve_other z k e = other_in z.other z.rows k e
