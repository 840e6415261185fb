-- All provisions and anchors are different ports: a plugin's own are, and two providers of a port are one.
use Rattle.std.specs.Prelude.{ℕ, ◌≡◌, refl, true, false, List, [], ◌∷◌, ◌++◌, eqb}
use Rattle.std.proofs.Common.{sym, ap, ◌∙◌, subst, true≢false, inl, inr}
use Rattle.std.proofs.Math.Bool.{or-true, or_comm}
use Rattle.std.proofs.lemmas.Bool.{eqb-false}
use Rattle.rules_types.specs.declared.Port.{Port}
use Rattle.rules.specs.Basics.{any, twice}
use Rattle.rules.specs.Holds.{Plugin, provided, provides, same_port, is_in}
use Rattle.rules.specs.Registration.{repeats}
use Rattle.rules_laws.specs.Laws.Tests.{by_test, neither}
use Rattle.rules_laws.specs.Laws.Members.{In, any_append, same_self, same_port_lem}
use Rattle.rules.specs.Conditions.{claims, claims_of}
use Rattle.rules_laws.specs.Built.{ids_of}

-- two lists with no port in common
abbrev pub Apart : List Port → List Port → Type 0
Apart l m = (k : Port) → is_in k l ≡ true → is_in k m ≡ true → ⊥

pub repeats_append : (l m : List Port) → repeats l ≡ false → repeats m ≡ false → Apart l m → repeats (l ++ m) ≡ false
repeats_append [] m e f h = f
repeats_append (p ∷ l) m e f h =
    let w = neither (is_in p l) (repeats l) e in
    let n : is_in p m ≡ false = by_test (is_in p m) (λ y. absurd (h p (rw (same_self p)) y)) (λ n. n) in
    rw (any_append (same_port p) l m, w.0, n, repeats_append l m w.1 f (λ k a b. h k (rw a (or-true (same_port k p))) b))

pub repeats_split : (l m : List Port) → repeats (l ++ m) ≡ false → (repeats l ≡ false) × (repeats m ≡ false) × Apart l m
repeats_split [] m e = (refl, e, λ k a b. true≢false (sym a))
repeats_split (p ∷ l) m e =
    let w = neither (is_in p (l ++ m)) (repeats (l ++ m)) e in
    let n = neither (is_in p l) (is_in p m) (sym (any_append (same_port p) l m) ∙ w.0) in
    let s = repeats_split l m w.1 in (
      rw (n.0, s.0),
      s.1,
      λ k a b. by_test (same_port k p)
          (λ y. true≢false (sym b ∙ ap (λ k. is_in k m) (sym (same_port_lem k p y)) ∙ n.1))
          (λ f. s.2 k (rw f at a) b),
    )

-- a port of a plugin is claimed
pub provides_claims : (p : Plugin) (k : Port) → provides p k ≡ is_in k (claims p)
provides_claims p k = or_comm (is_in k (provided p)) (same_port k p.anchor)

pub claimed : (l : List Plugin) (a : Plugin) (k : Port) → In a l → provides a k ≡ true → is_in k (claims_of l) ≡ true
claimed [] a k h e = elim h [ ]
claimed (p ∷ l) a k (inl i) e =
    any_append (same_port k) (claims p) (claims_of l) ∙ rw (sym (provides_claims p k) ∙ ap (λ p. provides p k) i ∙ e)
claimed (p ∷ l) a k (inr m) e =
    any_append (same_port k) (claims p) (claims_of l) ∙ rw (claimed l a k m e) (or-true (is_in k (claims p)))

pub claimant : (l : List Plugin) (k : Port) → is_in k (claims_of l) ≡ true → (a : Plugin) × In a l × (provides a k ≡ true)
claimant [] k e = absurd (true≢false (sym e))
claimant (p ∷ l) k e = by_test (is_in k (claims p))
    (λ y. (p, inl refl, provides_claims p k ∙ y))
    (λ n. let f = sym (any_append (same_port k) (claims p) (claims_of l)) ∙ e in
    let s = claimant l k (rw n at f) in
    (s.0, inr s.1, s.2))

-- each plugin's own ports are different
pub own_apart : (l : List Plugin) → repeats (claims_of l) ≡ false → (a : Plugin) → In a l → repeats (claims a) ≡ false
own_apart [] e a h = elim h [ ]
own_apart (p ∷ l) e a (inl i) = subst (λ a. repeats (claims a) ≡ false) i (repeats_split (claims p) (claims_of l) e).0
own_apart (p ∷ l) e a (inr m) = own_apart l (repeats_split (claims p) (claims_of l) e).1 a m

-- two that provide a port are one
pub one_claims : (l : List Plugin) → repeats (claims_of l) ≡ false → (a b : Plugin) (k : Port) → In a l → In b l
    → provides a k ≡ true → provides b k ≡ true → a ≡ b
one_claims [] e a b k h _ x y = elim h [ ]
one_claims (p ∷ l) e a b k (inl i) (inl j) x y = sym i ∙ j
one_claims (p ∷ l) e a b k (inl i) (inr n) x y =
    absurd ((repeats_split (claims p) (claims_of l) e).2 k (sym (provides_claims p k) ∙ ap (λ p. provides p k) i ∙ x) (claimed l b k n y))
one_claims (p ∷ l) e a b k (inr m) (inl j) x y =
    absurd ((repeats_split (claims p) (claims_of l) e).2 k (sym (provides_claims p k) ∙ ap (λ p. provides p k) j ∙ y) (claimed l a k m x))
one_claims (p ∷ l) e a b k (inr m) (inr n) x y = one_claims l (repeats_split (claims p) (claims_of l) e).1 a b k m n x y

-- no plugin has an id that is not among the ids
pub not_among : (x : ℕ) (l : List Plugin) (a : Plugin) → any (eqb x) (ids_of l) ≡ false → In a l → x ≡ a.id → ⊥
not_among x [] a e h j = elim h [ ]
not_among x (q ∷ l) a e (inl i) j =
    eqb-false x q.id (neither (eqb x q.id) (any (eqb x) (ids_of l)) e).0 (j ∙ ap (λ (v : Plugin). v.id) (sym i))
not_among x (q ∷ l) a e (inr m) j = not_among x l a (neither (eqb x q.id) (any (eqb x) (ids_of l)) e).1 m j

-- and both together say that all are different, where ids are
pub all_apart : (l : List Plugin) → twice (ids_of l) ≡ false → ((a : Plugin) → In a l → repeats (claims a) ≡ false)
    → ((a b : Plugin) (k : Port) → In a l → In b l → provides a k ≡ true → provides b k ≡ true → a.id ≡ b.id) → repeats (claims_of l) ≡ false
all_apart [] e own sole = refl
all_apart (p ∷ l) e own sole =
    let w = neither (any (eqb p.id) (ids_of l)) (twice (ids_of l)) e in
    repeats_append (claims p) (claims_of l) (own p (inl refl))
    (all_apart l w.1 (λ a m. own a (inr m)) (λ a b k m n. sole a b k (inr m) (inr n)))
    λ k x y. let s = claimant l k y in
    not_among p.id l s.0 w.0 s.1 (sole p s.0 k (inl refl) (inr s.1) (provides_claims p k ∙ x) s.2)
