-- What stands in an array that is filled from the front, and one store more.
use Rattle.std.specs.Prelude.{ℕ, suc, ◌+◌, ◌-◌, ◌*◌, ◌≤◌, ◌<◌, ◌≡◌, List, [], ◌∷◌, ◌++◌, map, length, get_or, take, drop, set, replicate}
use Rattle.std.proofs.Common.{add-one, arith, sym, ap, ◌∙◌, subst, append_assoc, length-append, drop_of_length-le, take_at, take-suc, drop-cons}
use Rattle.std.proofs.lemmas.List.{map-append, set_at}
use Rattle.std.proofs.Math.ListN.{get_or-append}
use Rattle.rules_types.specs.declared.Port.{Port}
use Rattle.rules.specs.Holds.{port}
use Rattle.rules.specs.Ports.{pairs, flat}
use Rattle.ports.specs.Places.{length_flat, pairs_flat, flat_append, flat_get}

-- these numbers, and then zeros up to a size
abbrev pub filled : ℕ → List ℕ → List ℕ
filled n l = l ++ replicate (n - length l) 0

pub filled_front : (n m : ℕ) (l : List ℕ) → length l ≡ m → take m (filled n l) ≡ l
filled_front n m l e = take_at l (replicate (n - length l) 0) m e

-- a number more
pub filled_more : (n m : ℕ) (l : List ℕ) (x : ℕ) → length l ≡ m → m < n → set (filled n l) m x ≡ filled n (l ++ x ∷ [])
filled_more n m l x e h =
    let k = n - length (l ++ x ∷ []) in
    let s : n - length l ≡ suc k = omega (arith, length-append l (x ∷ [])) in
    rw s (set_at l 0 (replicate k 0) x m e ∙ sym (append_assoc l (x ∷ []) (replicate k 0)))

-- a count and an array of a size that list these ports: they stand in front, and the rest is 0
pub record Lists (size count : ℕ) (array : List ℕ) (ps : List Port) : Type 0 where
  pub counted : count ≡ length ps
  pub numbers : array ≡ filled size (flat ps)

module _ {size count : ℕ} {array : List ℕ} {ps : List Port} (r : Lists size count array ps) where
  pub listed_words : take (count * 2) array ≡ flat ps
  listed_words =
      ap (λ (l : List ℕ). take (count * 2) l) r.numbers ∙ filled_front size (count * 2) (flat ps) (omega (arith, r.counted, length_flat ps))

  pub listed : pairs (take (count * 2) array) ≡ ps
  listed = ap pairs listed_words ∙ pairs_flat ps

  -- the array lists what is read off it
  pub lists_own : Lists size count array (pairs (take (count * 2) array))
  lists_own = subst (λ (qs : List Port). Lists size count array qs) (sym listed) r

  -- the port at a place, and the rest
  pub lists_at : (k : ℕ) → k < count → drop k ps ≡ port (get_or array (k * 2) 0) (get_or array (k * 2 + 1) 0) ∷ drop (k + 1) ps
  lists_at k h =
      let zeros : List ℕ = replicate (size - length (flat ps)) 0 in
      let i : k < length ps = omega (arith, r.counted) in
      let a : k * 2 < length (flat ps) = omega (arith, length_flat ps) in
      let b : k * 2 + 1 < length (flat ps) = omega (arith, length_flat ps) in
      let put = get_or-append (flat ps) zeros 0 in
      rw (r.numbers, put (k * 2) a, put (k * 2 + 1) b, flat_get ps k i, add-one k) (drop-cons ps k (port 0 0) i)

  pub lists_end : (k : ℕ) → count ≤ k → drop k ps ≡ []
  lists_end k h = drop_of_length-le ps {i = k} (omega (arith, r.counted))

  -- the array has room for them
  pub lists_within : count * 2 ≤ length array
  lists_within =
      rw r.numbers (omega (arith, r.counted, length_flat ps, length-append (flat ps) (replicate (size - length (flat ps)) 0)))

  -- a port more, by two stores
  pub lists_more : (q : Port) {a b : ℕ} → a ≡ count * 2 → b ≡ count * 2 + 1 → b < size
      → Lists size (count + 1) (set (set array a q.key) b q.realm) (ps ++ q ∷ [])
  lists_more q {a} {b} e f h =
      let l = flat ps in
      let l₁ = l ++ q.key ∷ [] in
      let i : length l ≡ a = omega (arith, r.counted, length_flat ps) in
      let j : length l₁ ≡ b = omega (arith, length-append l (q.key ∷ [])) in
      record {
        counted = omega (arith, r.counted, length-append ps (q ∷ []));
        numbers =
            ap (λ (x : List ℕ). set (set x a q.key) b q.realm) r.numbers
            ∙ ap (λ (x : List ℕ). set x b q.realm) (filled_more size a l q.key i (omega arith))
            ∙ filled_more size b l₁ q.realm j h
            ∙ ap (λ (x : List ℕ). filled size x) (append_assoc l (q.key ∷ []) (q.realm ∷ []) ∙ sym (flat_append ps (q ∷ [])));
      }

-- the port of a key more
next_key : (f : ℕ → Port) (keys : List ℕ) (i : ℕ) → i < length keys → map f (take i keys) ++ f (get_or keys i 0) ∷ [] ≡ map f (take (i + 1) keys)
next_key f keys i h = rw (add-one i, take-suc keys i 0 h) (sym (map-append f (take i keys) (get_or keys i 0 ∷ [])))

pub lists_key : {size count : ℕ} {array : List ℕ} (f : ℕ → Port) (front : List Port) (keys : List ℕ) (i : ℕ) {q : Port} {a b : ℕ}
    → Lists size count array (front ++ map f (take i keys)) → i < length keys → q ≡ f (get_or keys i 0)
    → a ≡ count * 2 → b ≡ count * 2 + 1 → b < size
    → Lists size (count + 1) (set (set array a q.key) b q.realm) (front ++ map f (take (i + 1) keys))
lists_key {size} {count} {array} f front keys i {q} {a} {b} r h g e d w =
    let ps = map f (take i keys) in
    let one = append_assoc front ps (q ∷ []) ∙ ap (λ (p : Port). front ++ (ps ++ p ∷ [])) g ∙ ap (λ (l : List Port). front ++ l) (next_key f keys i h) in
    subst (λ (l : List Port). Lists size (count + 1) (set (set array a q.key) b q.realm) l) one (lists_more r q e d w)
