-- Realm lists: their numbers, keys that rise, and what a key resolves to.
use Rattle.std.specs.Prelude.{ℕ, zero, suc, ◌<◌, ◌≡◌, refl, true, List, [], ◌∷◌, eqb, ltb, length, get_or, take, drop}
use Rattle.std.proofs.Common.{arith, eqb-true, ltb-true}
use Rattle.rules_types.specs.declared.Port.{Port}
use Rattle.rules_types.specs.declared.Edition.{Edition}
use Rattle.rules_types.specs.declared.Edition.TheVariants.{First, Second}
use Rattle.rules.specs.Holds.{port, RealmList, edition_number, default_of}
use Rattle.rules.specs.Ports.{rising, resolve_in, edition_of, realm_list, realm_numbers}
use Rattle.rules_laws.specs.Laws.Tests.{by_test, both}
use Rattle.rules_laws.specs.Laws.Pairs.{pairs_flat}

-- A kept list is read off its numbers.
pub realm_list_back : (l : RealmList) → realm_list (realm_numbers l) ≡ l
unfolding realm_list
realm_list_back l = λ x. record { edition = edition_back l.edition x; rows = pairs_flat l.rows x }
  where
    edition_back : (e : Edition) → edition_of (edition_number e) (default_of e) ≡ e
    edition_back First = refl
    edition_back (Second d) = refl

-- a key's port has that key
pub resolve_key_law : (other : ℕ) (rows : List Port) (k : ℕ) → (resolve_in other rows k).key ≡ k
resolve_key_law other [] k = refl
resolve_key_law other (p ∷ ps) k = by_test (eqb p.key k)
    (λ t. rw t (eqb-true p.key k t))
    (λ f. rw f (resolve_key_law other ps k))

-- rising keys, by their places
pub rising_at : (l : List Port) (i j : ℕ) → rising l ≡ true → i < j → j < length l → (get_or l i (port 0 0)).key < (get_or l j (port 0 0)).key
rising_at [] i j e h b = absurd (omega arith)
rising_at (p ∷ l) i zero e h b = absurd (omega arith)
rising_at (p ∷ []) i (suc j) e h b = absurd (omega arith)
rising_at (p ∷ q ∷ l) zero (suc zero) e h b = ltb-true p.key q.key (both (ltb p.key q.key) (rising (q ∷ l)) e).0
rising_at (p ∷ q ∷ l) zero (suc (suc j)) e h b =
    let c = both (ltb p.key q.key) (rising (q ∷ l)) e in
    let first = ltb-true p.key q.key c.0 in
    let rest = rising_at (q ∷ l) zero (suc j) c.1 (omega arith) (omega arith) in
    omega arith
rising_at (p ∷ q ∷ l) (suc i) (suc j) e h b = rising_at (q ∷ l) i j (both (ltb p.key q.key) (rising (q ∷ l)) e).1 (omega arith) (omega arith)

pub rising_drop : (n : ℕ) (l : List Port) → rising l ≡ true → rising (drop n l) ≡ true
rising_drop zero l e = e
rising_drop (suc n) [] e = e
rising_drop (suc n) (p ∷ []) e = rising_drop n [] refl
rising_drop (suc n) (p ∷ q ∷ l) e = rising_drop n (q ∷ l) (both (ltb p.key q.key) (rising (q ∷ l)) e).1

pub rising_take : (n : ℕ) (l : List Port) → rising l ≡ true → rising (take n l) ≡ true
rising_take zero l e = refl
rising_take (suc n) [] e = refl
rising_take (suc zero) (p ∷ l) e = refl
rising_take (suc (suc n)) (p ∷ []) e = refl
rising_take (suc (suc n)) (p ∷ q ∷ l) e =
    let c = both (ltb p.key q.key) (rising (q ∷ l)) e in
    rw c.0 (rising_take (suc n) (q ∷ l) c.1)
