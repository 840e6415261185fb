-- Ports stand in a lent list as key, realm, key, realm: what `pairs` and `flat` make of it, at any place.
use Rattle.std.specs.Prelude.{ℕ, zero, suc, ◌+◌, ◌-◌, ◌*◌, ◌/◌, ◌%◌, ◌≤◌, ◌<◌, ◌≡◌, refl, true, false, List, [], ◌∷◌, ◌++◌, eqb, length, get_or, take, drop}
use Rattle.std.proofs.Common.{add-one, arith, sym, ap, ◌∙◌, length-drop, drop-cons, take_all, get_or-take, eq-eqb, ne_eqb}
use Rattle.std.proofs.Math.Numerals.{add-two}
use Rattle.std.proofs.Math.Seq.{drop-nil}
use Rattle.std.proofs.lemmas.Bool.{eqb-false}
use Rattle.rules_types.specs.declared.Port.{Port}
use Rattle.rules.specs.Holds.{port}
use Rattle.rules.specs.Ports.{pairs, odd_length, flat}

-- a chunk of two numbers at a list's front is its first port
pub pairs_chunk : (p l : List ℕ) → length p ≡ 2 → pairs (p ++ l) ≡ port (get_or p 0 0) (get_or p 1 0) ∷ pairs l
pairs_chunk [] l e = absurd (omega arith)
pairs_chunk (k ∷ []) l e = absurd (omega arith)
pairs_chunk (k ∷ r ∷ []) l e = refl
pairs_chunk (k ∷ r ∷ x ∷ p) l e = absurd (omega arith)

-- the port at a place, and the rest
pub pairs_at : (l : List ℕ) (n : ℕ) → n + 1 < length l → pairs (drop n l) ≡ port (get_or l n 0) (get_or l (n + 1) 0) ∷ pairs (drop (n + 2) l)
pairs_at l n h =
    let h₀ : n < length l = omega arith in
    let h₁ : suc n < length l = omega arith in
    rw (add-one n, add-two n, drop-cons l n 0 h₀, drop-cons l (suc n) 0 h₁)

-- the same by the place of the realm, which goes on by 2
pub pairs_behind : (l : List ℕ) (i : ℕ) → 1 ≤ i → i < length l → pairs (drop (i - 1) l) ≡ port (get_or l (i - 1) 0) (get_or l i 0) ∷ pairs (drop (i + 2 - 1) l)
pairs_behind l i p h =
    let e : i - 1 + 1 ≡ i = omega arith in
    let f : i - 1 + 2 ≡ i + 2 - 1 = omega arith in
    rw (e, f) at (pairs_at l (i - 1) (omega arith))

-- the row before one, by the places of its numbers, and those from that one on
pub pairs_before : (l : List ℕ) (n a b : ℕ) → a + 2 ≡ n * 2 → b ≡ a + 1 → n * 2 ≤ length l
    → pairs (drop ((n - 1) * 2) l) ≡ port (get_or l a 0) (get_or l b 0) ∷ pairs (drop (n * 2) l)
pairs_before l n a b e f h =
    let start : (n - 1) * 2 ≡ a = omega arith in
    rw (start, f, ← e) (pairs_at l a (omega arith))

short : (l : List ℕ) → length l ≤ 1 → pairs l ≡ []
short [] h = refl
short (k ∷ []) h = refl
short (k ∷ r ∷ l) h = absurd (omega arith)

pub pairs_end : (l : List ℕ) (n : ℕ) → length l ≤ n + 1 → pairs (drop n l) ≡ []
pairs_end l n h = short (drop n l) (simp length-drop (omega arith))

-- a part from a place to the end
pub part_end : (l : List ℕ) (n : ℕ) → take (length l - n) (drop n l) ≡ drop n l
part_end l n = take_all (length l - n) (drop n l) (simp length-drop (omega arith))

-- lengths
pub length_pairs : (l : List ℕ) → length (pairs l) ≡ length l / 2
length_pairs [] = refl
length_pairs (k ∷ []) = refl
length_pairs (k ∷ r ∷ l) = omega (arith, length_pairs l)

pub length_flat : (ps : List Port) → length (flat ps) ≡ 2 * length ps
length_flat [] = refl
length_flat (p ∷ ps) = omega (arith, length_flat ps)

pub odd_length_lem : (l : List ℕ) → odd_length l ≡ eqb (length l % 2) 1
odd_length_lem [] = refl
odd_length_lem (k ∷ []) = refl
odd_length_lem (k ∷ r ∷ l) = let e : suc (suc (length l)) % 2 ≡ length l % 2 = omega arith in rw e (odd_length_lem l)

pub length_odd : (l : List ℕ) → (length l % 2 ≡ 0 → ⊥) → odd_length l ≡ true
length_odd l h = odd_length_lem l ∙ eq-eqb (length l % 2) 1 (omega arith)

pub length_even : (l : List ℕ) → length l % 2 ≡ 0 → odd_length l ≡ false
length_even l h = odd_length_lem l ∙ ne_eqb (length l % 2) 1 (λ e. omega arith)

pub even_length : (l : List ℕ) → odd_length l ≡ false → length l % 2 ≡ 0
even_length l h = let n = eqb-false (length l % 2) 1 (sym (odd_length_lem l) ∙ h) in omega arith

-- there and back
pub flat_pairs : (l : List ℕ) → flat (pairs l) ≡ take (length l / 2 * 2) l
flat_pairs [] = refl
flat_pairs (k ∷ []) = refl
flat_pairs (k ∷ r ∷ l) =
    let e : suc (suc (length l)) / 2 * 2 ≡ suc (suc (length l / 2 * 2)) = omega arith in
    rw (e, flat_pairs l)

pub flat_pairs_even : (l : List ℕ) → length l % 2 ≡ 0 → flat (pairs l) ≡ l
flat_pairs_even l h = flat_pairs l ∙ take_all (length l / 2 * 2) l (omega arith)

pub pairs_flat : (ps : List Port) → pairs (flat ps) ≡ ps
pairs_flat [] = refl
pairs_flat (p ∷ ps) = ap (λ (qs : List Port). p ∷ qs) (pairs_flat ps)

pub flat_append : (ps qs : List Port) → flat (ps ++ qs) ≡ flat ps ++ flat qs
flat_append [] qs = refl
flat_append (p ∷ ps) qs = ap (λ (l : List ℕ). p.key ∷ p.realm ∷ l) (flat_append ps qs)

two_more : (n : ℕ) → suc n * 2 ≡ suc (suc (n * 2))
two_more n = omega arith

pub pairs_take : (n : ℕ) (l : List ℕ) → pairs (take (n * 2) l) ≡ take n (pairs l)
pairs_take zero l = refl
pairs_take (suc n) [] = rw (two_more n)
pairs_take (suc n) (k ∷ []) = rw (two_more n)
pairs_take (suc n) (k ∷ r ∷ l) = rw (two_more n, pairs_take n l)

pub pairs_drop : (n : ℕ) (l : List ℕ) → drop n (pairs l) ≡ pairs (drop (n * 2) l)
pairs_drop zero l = refl
pairs_drop (suc n) [] = rw (two_more n)
pairs_drop (suc n) (k ∷ []) = rw (two_more n, drop-nil (suc (n * 2)))
pairs_drop (suc n) (k ∷ r ∷ l) = rw (two_more n) (pairs_drop n l)

-- twice as many numbers as there are ports, or more
pub pairs_whole : (n : ℕ) (l : List ℕ) → length l / 2 ≤ n → pairs (take (n * 2) l) ≡ pairs l
pairs_whole n l h = pairs_take n l ∙ take_all n (pairs l) (omega (arith, length_pairs l))

-- the port of a row, in numbers
pub pairs_get : (l : List ℕ) (i : ℕ) → i < length l / 2 → get_or (pairs l) i (port 0 0) ≡ port (get_or l (i * 2) 0) (get_or l (i * 2 + 1) 0)
pairs_get [] i h = absurd (omega arith)
pairs_get (k ∷ []) i h = absurd (omega arith)
pairs_get (k ∷ r ∷ l) zero h = refl
pairs_get (k ∷ r ∷ l) (suc i) h =
    let e : suc (suc (i * 2)) + 1 ≡ suc (suc (i * 2 + 1)) = omega arith in
    rw (two_more i, e) (pairs_get l i (omega arith))

pub flat_get : (ps : List Port) (i : ℕ) → i < length ps → port (get_or (flat ps) (i * 2) 0) (get_or (flat ps) (i * 2 + 1) 0) ≡ get_or ps i (port 0 0)
flat_get ps i h =
    sym (pairs_get (flat ps) i (omega (arith, length_flat ps))) ∙ ap (λ (qs : List Port). get_or qs i (port 0 0)) (pairs_flat ps)

-- how many numbers equal ports have, and which
pub pairs_same_length : (l m : List ℕ) → pairs l ≡ pairs m → length l / 2 ≡ length m / 2
pairs_same_length l m e = sym (length_pairs l) ∙ ap length e ∙ length_pairs m

pub pairs_same : (l m : List ℕ) (i : ℕ) → pairs l ≡ pairs m → i < length l / 2 * 2 → get_or l i 0 ≡ get_or m i 0
pairs_same l m i e h =
    let k = pairs_same_length l m e in
    let f : take (length l / 2 * 2) l ≡ take (length m / 2 * 2) m = sym (flat_pairs l) ∙ ap flat e ∙ flat_pairs m in
    sym (get_or-take (length l / 2 * 2) l i 0 h) ∙ ap (λ (x : List ℕ). get_or x i 0) f ∙ get_or-take (length m / 2 * 2) m i 0 (omega arith)
