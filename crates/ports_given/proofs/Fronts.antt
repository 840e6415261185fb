-- Ports in front of a list that declared keys can resolve to: fewer of them, and one more.
use Prim.Native.Nat.{ℕ, zero, suc, ◌+◌, ◌*◌, ◌/◌, ◌≤◌, ◌<◌}
use native.Mathlib.Omega.{arith}
use native.Mathlib.Numerals.{add-one}
use mathlib.Core.Path.{◌≡◌, refl, sym, ap, ◌∙◌}
use mathlib.Core.Bool.{Bool, true, false, not, ◌&&◌, ◌||◌, and-true, and-false, and_assoc, or-true, or-false, or_assoc}
use mathlib.Core.List.{List, [], ◌∷◌, ◌++◌, map-append}
use lib.Dec.{eqb}
use lib.ListN.{length, get_or, take, set, length-map}
use lib.Seq.{take-suc, take-take, length-take-le}
use borrow.Author.Tests.{not-true}
use Rattle.rules.specs.Basics.{any, all, twice}
use Rattle.rules_types.specs.declared.Port.{Port}
use Rattle.rules.specs.Holds.{port, Realms}
use Rattle.rules.specs.Ports.{pairs}
use Rattle.rules.specs.Conditions.{resolved_in, keys_of}
use Rattle.rules.specs.Limits.{max_dependency_keys}
use Rattle.rules_laws.specs.Laws.Tests.{both, neither}
use Rattle.rules_laws.specs.Laws.Members.{same_swap, any_append}
use Rattle.ports.specs.Places.{length_pairs, pairs_get}
use Rattle.ports_resolved.specs.Filled.{filled, filled_front, filled_more}
use Rattle.ports_given.specs.Given.{declarable, Front}

-- the keys of a front
pub keys_take : (n : ℕ) (l : List Port) → keys_of (take n l) ≡ take n (keys_of l)
keys_take zero l = refl
keys_take (suc n) [] = refl
keys_take (suc n) (p ∷ l) = ap (λ m. p.key ∷ m) (keys_take n l)

-- tests of a front
all_take : (f : Port → Bool) (n : ℕ) (l : List Port) → all f l ≡ true → all f (take n l) ≡ true
all_take f zero l e = refl
all_take f (suc n) [] e = refl
all_take f (suc n) (p ∷ l) e = let b = both (f p) (all f l) e in rw b.0 (all_take f n l b.1)

any_take : (f : ℕ → Bool) (n : ℕ) (l : List ℕ) → any f l ≡ false → any f (take n l) ≡ false
any_take f zero l e = refl
any_take f (suc n) [] e = refl
any_take f (suc n) (x ∷ l) e = let b = neither (f x) (any f l) e in rw b.0 (any_take f n l b.1)

twice_take : (n : ℕ) (l : List ℕ) → twice l ≡ false → twice (take n l) ≡ false
twice_take zero l e = refl
twice_take (suc n) [] e = refl
twice_take (suc n) (x ∷ l) e =
    let b = neither (any (eqb x) l) (twice l) e in
    rw (any_take (eqb x) n l b.0) (twice_take n l b.1)

-- fewer ports of declarable ones
pub declarable_take : (z : Realms) (m n : ℕ) (l : List Port) → m ≤ n → declarable z (take n l) ≡ true → declarable z (take m l) ≡ true
declarable_take z m n l h e =
    let b = both (all (resolved_in z) (take n l)) (not (twice (keys_of (take n l)))) e in
    let a = all_take (resolved_in z) m (take n l) b.0 in
    let t = twice_take m (keys_of (take n l)) (not-true _ b.1) in
    let s = take-take m n l h in
    let k : keys_of (take m l) ≡ take m (keys_of (take n l)) = ap keys_of (sym s) ∙ keys_take m (take n l) in
    rw (ap (all (resolved_in z)) (sym s) ∙ a, k, t)

-- one port more
all_behind : (f : Port → Bool) (l : List Port) (q : Port) → all f (l ++ q ∷ []) ≡ (all f l && f q)
all_behind f [] q = and-true (f q)
all_behind f (p ∷ l) q = rw (all_behind f l q, and_assoc)

-- numbers are the same either way, as the ports of one realm are
eqb_swap : (a b : ℕ) → eqb a b ≡ eqb b a
eqb_swap a b = sym (and-true (eqb a b)) ∙ same_swap (port a 0) (port b 0) ∙ and-true (eqb b a)

regroup : (a b c d : Bool) → ((a || b) || (c || d)) ≡ ((b || c) || (a || d))
regroup true b c d = sym (or-true (b || c))
regroup false b c d = sym (or_assoc b c d)

twice_behind : (l : List ℕ) (k : ℕ) → twice (l ++ k ∷ []) ≡ (any (eqb k) l || twice l)
twice_behind [] k = refl
twice_behind (x ∷ l) k =
    rw (any_append (eqb x) l (k ∷ []), or-false, twice_behind l k, eqb_swap x k) (regroup (any (eqb x) l) (eqb k x) (any (eqb k) l) (twice l))

-- in the numbers of a list: the port at row n, with the keys before it
module _ {z : Realms} (words : List ℕ) {keys : List ℕ} {n : ℕ} (f : Front z (pairs words) n keys) (h : n < length words / 2) where
  abbrev key : ℕ
  key = get_or words (n * 2) 0

  abbrev q : Port
  q = port key (get_or words (n * 2 + 1) 0)

  more : take (n + 1) (pairs words) ≡ take n (pairs words) ++ q ∷ []
  more =
      ap (λ i. take i (pairs words)) (add-one n)
      ∙ take-suc (pairs words) n (port 0 0) (omega (arith, length_pairs words))
      ∙ ap (λ (p : Port). take n (pairs words) ++ p ∷ []) (pairs_get words n h)

  more_keys : keys_of (take (n + 1) (pairs words)) ≡ keys_of (take n (pairs words)) ++ key ∷ []
  more_keys = ap keys_of more ∙ map-append (λ (p : Port). p.key) (take n (pairs words)) (q ∷ [])

  size : length (keys_of (take n (pairs words))) ≡ n
  size = length-map (take n (pairs words)) (λ (p : Port). p.key) ∙ length-take-le n (pairs words) f.inside

  before : take n keys ≡ keys_of (take n (pairs words))
  before = ap (take n) f.filled ∙ filled_front max_dependency_keys n (keys_of (take n (pairs words))) size

  declarable_more : declarable z (take (n + 1) (pairs words)) ≡ (resolved_in z q && not (any (eqb key) (take n keys)))
  declarable_more =
      let ports = take n (pairs words) in
      let b = both (all (resolved_in z) ports) (not (twice (keys_of ports))) f.declared in
      let All-more = ap (all (resolved_in z)) more ∙ all_behind (resolved_in z) ports q in
      let twice-more = ap twice more_keys ∙ twice_behind (keys_of ports) key in
      rw (All-more, twice-more) (rw (b.0, not-true (twice (keys_of ports)) b.1, or-false, before))

  pub unresolved : resolved_in z q ≡ false → declarable z (take (n + 1) (pairs words)) ≡ false
  unresolved e = declarable_more ∙ rw e

  pub alike : any (eqb key) (take n keys) ≡ true → declarable z (take (n + 1) (pairs words)) ≡ false
  alike e = declarable_more ∙ rw (e, and-false)

  pub front_more : n < max_dependency_keys → resolved_in z q ≡ true → any (eqb key) (take n keys) ≡ false → Front z (pairs words) (n + 1) (set keys n key)
  front_more l e d = record {
    few = omega arith;
    inside = omega (arith, length_pairs words);
    filled =
        ap (λ (x : List ℕ). set x n key) f.filled
        ∙ filled_more max_dependency_keys n (keys_of (take n (pairs words))) key size l
        ∙ ap (filled max_dependency_keys) (sym more_keys);
    declared = declarable_more ∙ rw (e, d);
  }
