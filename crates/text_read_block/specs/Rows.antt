-- Where a list's lines go: row by row to the front of lent words, and nowhere without room.
use Rattle.std.specs.Prelude.{ℕ, suc, ◌+◌, ◌*◌, ◌/◌, ◌≤◌, ◌≡◌, refl, List, [], ◌∷◌, ◌++◌, ltb, length, set, take}
use Rattle.std.proofs.Common.{arith, sym, ap, ◌∙◌, append-nil, append_assoc, length-set, take-suc-set, lt-ltb}
use Rattle.rules.specs.Basics.{pick}
use Rattle.rules_types.specs.declared.Port.{Port}
use Rattle.rules.specs.Ports.{flat}
use Rattle.rules_laws.specs.Laws.Tests.{by_test}

-- the words of a row, where there is room for it
unfoldable pub row_put : List ℕ → ℕ → (key realm : ℕ) → List ℕ
row_put into row key realm = pick (ltb row (length into / 2)) (set (set into (row * 2) key) (row * 2 + 1) realm) into

-- rows from one on
unfoldable pub rows_put : List ℕ → ℕ → List Port → List ℕ
rows_put into row [] = into
rows_put into row (p ∷ ps) = rows_put (row_put into row p.key p.realm) (row + 1) ps

pub row_length : (into : List ℕ) (row key realm : ℕ) → length (row_put into row key realm) ≡ length into
unfolding row_put
row_length into row key realm = by_test (ltb row (length into / 2))
    (λ y. rw y (length-set (set into (row * 2) key) (row * 2 + 1) realm ∙ length-set into (row * 2) key))
    (λ n. rw n)

pub rows_length : (into : List ℕ) (row : ℕ) (ps : List Port) → length (rows_put into row ps) ≡ length into
unfolding rows_put
rows_length into row [] = refl
rows_length into row (p ∷ ps) = rows_length (row_put into row p.key p.realm) (row + 1) ps ∙ row_length into row p.key p.realm

-- one row more
pub rows_snoc : (into : List ℕ) (row : ℕ) (ps : List Port) (p : Port)
    → rows_put into row (ps ++ p ∷ []) ≡ row_put (rows_put into row ps) (row + length ps) p.key p.realm
unfolding rows_put
rows_snoc into row [] p = let e : row + 0 ≡ row = omega arith in ap (λ i. row_put into i p.key p.realm) (sym e)
rows_snoc into row (q ∷ ps) p =
    let e : row + 1 + length ps ≡ row + suc (length ps) = omega arith in
    rows_snoc (row_put into row q.key q.realm) (row + 1) ps p
    ∙ ap (λ i. row_put (rows_put (row_put into row q.key q.realm) (row + 1) ps) i p.key p.realm) e

-- What has room stands in front, behind what stood there.
row_front : (into : List ℕ) (row key realm : ℕ) → (row + 1) * 2 ≤ length into
    → take ((row + 1) * 2) (row_put into row key realm) ≡ take (row * 2) into ++ key ∷ realm ∷ []
unfolding row_put
row_front into row key realm h =
    let one = set into (row * 2) key in
    let size = length-set into (row * 2) key in
    let e : (row + 1) * 2 ≡ suc (row * 2 + 1) = omega arith in
    let f : row * 2 + 1 ≡ suc (row * 2) = omega arith in
    rw (lt-ltb row (length into / 2) (omega arith), e) (
    take-suc-set one (row * 2 + 1) realm (omega arith)
    ∙ ap (λ (l : List ℕ). l ++ realm ∷ []) (ap (λ n. take n one) f ∙ take-suc-set into (row * 2) key (omega arith))
    ∙ append_assoc (take (row * 2) into) (key ∷ []) (realm ∷ []))

pub rows_front : (into : List ℕ) (row : ℕ) (ps : List Port) → (row + length ps) * 2 ≤ length into
    → take ((row + length ps) * 2) (rows_put into row ps) ≡ take (row * 2) into ++ flat ps
unfolding rows_put
rows_front into row [] h =
    let e : (row + 0) * 2 ≡ row * 2 = omega arith in
    rw e (sym (append-nil (take (row * 2) into)))
rows_front into row (p ∷ ps) h =
    let next = row_put into row p.key p.realm in
    let e : (row + suc (length ps)) * 2 ≡ (row + 1 + length ps) * 2 = omega arith in
    let l = row_length into row p.key p.realm in
    rw e (
    rows_front next (row + 1) ps (omega arith)
    ∙ ap (λ (l : List ℕ). l ++ flat ps) (row_front into row p.key p.realm (omega arith))
    ∙ append_assoc (take (row * 2) into) (p.key ∷ p.realm ∷ []) (flat ps))

-- The same of single numbers.
unfoldable pub one_put : List ℕ → ℕ → ℕ → List ℕ
one_put into i n = pick (ltb i (length into)) (set into i n) into

unfoldable pub all_put : List ℕ → ℕ → List ℕ → List ℕ
all_put into i [] = into
all_put into i (n ∷ ns) = all_put (one_put into i n) (i + 1) ns

pub one_length : (into : List ℕ) (i n : ℕ) → length (one_put into i n) ≡ length into
unfolding one_put
one_length into i n = by_test (ltb i (length into)) (λ y. rw y (length-set into i n)) (λ f. rw f)

pub all_length : (into : List ℕ) (i : ℕ) (ns : List ℕ) → length (all_put into i ns) ≡ length into
unfolding all_put
all_length into i [] = refl
all_length into i (n ∷ ns) = all_length (one_put into i n) (i + 1) ns ∙ one_length into i n

pub all_snoc : (into : List ℕ) (i : ℕ) (ns : List ℕ) (n : ℕ) → all_put into i (ns ++ n ∷ []) ≡ one_put (all_put into i ns) (i + length ns) n
unfolding all_put
all_snoc into i [] n = let e : i + 0 ≡ i = omega arith in ap (λ k. one_put into k n) (sym e)
all_snoc into i (m ∷ ns) n =
    let e : i + 1 + length ns ≡ i + suc (length ns) = omega arith in
    all_snoc (one_put into i m) (i + 1) ns n ∙ ap (λ k. one_put (all_put (one_put into i m) (i + 1) ns) k n) e

pub all_front : (into : List ℕ) (i : ℕ) (ns : List ℕ) → i + length ns ≤ length into → take (i + length ns) (all_put into i ns) ≡ take i into ++ ns
unfolding all_put one_put
all_front into i [] h = let e : i + 0 ≡ i = omega arith in rw e (sym (append-nil (take i into)))
all_front into i (n ∷ ns) h =
    let next = set into i n in
    let e : i + suc (length ns) ≡ i + 1 + length ns = omega arith in
    let f : i + 1 ≡ suc i = omega arith in
    let l = length-set into i n in
    rw (lt-ltb i (length into) (omega arith), e) (
    all_front next (i + 1) ns (omega arith)
    ∙ ap (λ (l : List ℕ). l ++ ns) (ap (λ k. take k next) f ∙ take-suc-set into i n (omega arith))
    ∙ append_assoc (take i into) (n ∷ []) ns)
