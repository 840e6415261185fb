-- Which plugins stand in the places, and what a test over a list says of its members.
use Rattle.std.specs.Prelude.{ℕ, ◌≡◌, refl, Bool, true, false, ◌||◌, List, [], ◌∷◌, ◌++◌, map, ◌⊎◌, eqb, Some, None}
use Rattle.std.proofs.Common.{arith, sym, ap, ◌∙◌, subst, true≢false, inl, inr, ⊎_elim, eqb-true, eq-eqb, ne_eqb}
use Rattle.std.proofs.Math.Bool.{or-false, or_assoc}
use Rattle.std.proofs.lemmas.Bool.{eqb-false}
use Rattle.rules.specs.Basics.{any, all, first}
use Rattle.rules_types.specs.declared.Port.{Port}
use Rattle.rules.specs.Holds.{Plugin, Places, Registry, held, plugins, lookup, same_port, is_in}
use Rattle.rules.specs.Outcomes.{stored_at, freed_at, at_lowest_free}
use Rattle.rules_laws.specs.Laws.Tests.{by_test, both}

abbrev pub In : {A : Type 0} → A → List A → Type 0
In a [] = ⊥
In a (x ∷ l) = (x ≡ a) ⊎ In a l

-- tests over lists
pub first_in_lem : {A : Type 0} (f : A → Bool) (l : List A) (a : A) → first f l ≡ Some a → In a l × (f a ≡ true)
first_in_lem f [] a e = let z : ◌≡◌ {A = ℕ} 0 1 = cc in absurd (omega arith)
first_in_lem f (x ∷ l) a e = by_test (f x)
    (λ y. let i : Some x ≡ Some a = rw y at e in let j : x ≡ a = cc in (inl j, subst (λ v. f v ≡ true) j y))
    (λ n. let r = first_in_lem f l a (rw n at e) in (inr r.0, r.1))

pub first_none : {A : Type 0} (f : A → Bool) (l : List A) (a : A) → first f l ≡ None → In a l → f a ≡ false
first_none {A = A} f [] a e h = elim h [ ]
first_none f (x ∷ l) a e (inl i) = by_test (f x)
    (λ y. let j : Some x ≡ None = rw y at e in cc)
    (λ n. subst (λ v. f v ≡ false) i n)
first_none f (x ∷ l) a e (inr m) = by_test (f x)
    (λ y. let j : Some x ≡ None = rw y at e in cc)
    (λ n. first_none f l a (rw n at e) m)

-- a test of a list that starts with a
module _ {A : Type 0} (f : A → Bool) {l rest : List A} {a : A} (s : l ≡ a ∷ rest) where
  pub any_hit : f a ≡ true → any f l ≡ true
  any_hit t = rw (s, t)

  pub any_miss : f a ≡ false → any f l ≡ any f rest
  any_miss t = rw (s, t)

pub any_append : {A : Type 0} (f : A → Bool) (l m : List A) → any f (l ++ m) ≡ (any f l || any f m)
any_append f [] m = refl
any_append f (x ∷ l) m = rw (any_append f l m, or_assoc)

-- where one passes, there is one that does
pub any_some : {A : Type 0} (f : A → Bool) (l : List A) → any f l ≡ true → (a : A) × In a l × (f a ≡ true)
any_some f [] e = absurd (true≢false (sym e))
any_some f (x ∷ l) e = by_test (f x)
    (λ y. (x, inl refl, y))
    (λ n. let s = any_some f l (rw n at e) in (s.0, inr s.1, s.2))

pub any_false : {A : Type 0} (f : A → Bool) (l : List A) (a : A) → any f l ≡ false → In a l → f a ≡ false
any_false {A = A} f [] a e h = elim h [ ]
any_false f (x ∷ l) a e (inl i) = by_test (f x)
    (λ y. let j : true ≡ false = rw y at e in cc)
    (λ n. subst (λ v. f v ≡ false) i n)
any_false f (x ∷ l) a e (inr m) = by_test (f x)
    (λ y. let j : true ≡ false = rw y at e in cc)
    (λ n. any_false f l a (rw n at e) m)

pub all_true : {A : Type 0} (f : A → Bool) (l : List A) (a : A) → all f l ≡ true → In a l → f a ≡ true
all_true {A = A} f [] a e h = elim h [ ]
all_true f (x ∷ l) a e (inl i) = subst (λ v. f v ≡ true) i (both (f x) (all f l) e).0
all_true f (x ∷ l) a e (inr m) = all_true f l a (both (f x) (all f l) e).1 m

pub same_port_lem : (p q : Port) → same_port p q ≡ true → q ≡ p
same_port_lem p q e =
    let b = both (eqb p.key q.key) (eqb p.realm q.realm) e in
    let i = eqb-true p.key q.key b.0 in
    let j = eqb-true p.realm q.realm b.1 in
    λ k. record { key = sym i k; realm = sym j k }

eqb_swap : (a b : ℕ) → eqb a b ≡ eqb b a
eqb_swap a b = by_test (eqb a b)
    (λ y. y ∙ sym (eq-eqb b a (sym (eqb-true a b y))))
    (λ n. n ∙ sym (ne_eqb b a (λ i. eqb-false a b n (sym i))))

pub same_swap : (p q : Port) → same_port p q ≡ same_port q p
same_swap p q = rw (eqb_swap p.key q.key, eqb_swap p.realm q.realm)

pub same_self : (p : Port) → same_port p p ≡ true
same_self p = rw (eq-eqb p.key p.key refl, eq-eqb p.realm p.realm refl)

pub is_in_lem : (k : Port) (l : List Port) → is_in k l ≡ true → In k l
is_in_lem k [] e = absurd (true≢false (sym e))
is_in_lem k (x ∷ l) e = by_test (same_port k x)
    (λ y. inl (same_port_lem k x y))
    (λ n. inr (is_in_lem k l (rw n at e)))

-- a list with one port behind it
pub in_behind : (p q : Port) (l : List Port) → is_in p (l ++ q ∷ []) ≡ (is_in p l || same_port p q)
in_behind p q l = any_append (same_port p) l (q ∷ []) ∙ ap (λ b. is_in p l || b) (or-false _)

-- the places
pub lookup_in : (r : Registry) (x : ℕ) (p : Plugin) → lookup r x ≡ Some p → In p (plugins r)
unfolding lookup
lookup_in r x p e = (first_in_lem (λ (q : Plugin). eqb q.id x) (plugins r) p e).0

pub stored_in : (ps : Places) (q a : Plugin) → In a (held (map (stored_at q) ps)) → (a ≡ q) ⊎ (In a (held ps) × (eqb q.id a.id ≡ false))
stored_in [] q a h = elim h [ ]
stored_in (None ∷ ps) q a m = stored_in ps q a m
stored_in (Some s ∷ ps) q a (inl i) = by_test (eqb s.id q.id)
    (λ y. let j : q ≡ a = rw y at i in inl (sym j))
    (λ n. let j : s ≡ a = rw n at i in
    inr (inl j, ne_eqb q.id a.id (λ h. eqb-false s.id q.id n (ap (λ (v : Plugin). v.id) j ∙ sym h))))
stored_in (Some s ∷ ps) q a (inr m) = ⊎_elim inl (λ w. inr (inr w.0, w.1)) (stored_in ps q a m)

pub freed_in : (ps : Places) (x : ℕ) (a : Plugin) → In a (held (map (freed_at x) ps)) → In a (held ps) × (eqb x a.id ≡ false)
freed_in [] x a h = elim h [ ]
freed_in (None ∷ ps) x a m = freed_in ps x a m
freed_in (Some s ∷ ps) x a m = by_test (eqb s.id x)
    (λ y. let w = freed_in ps x a (rw y at m) in (inr w.0, w.1))
    (λ n. go n (freed_in ps x a) (rw n at m))
  where
    go : eqb s.id x ≡ false → (In a (held (map (freed_at x) ps)) → In a (held ps) × (eqb x a.id ≡ false))
        → In a (s ∷ held (map (freed_at x) ps)) → In a (s ∷ held ps) × (eqb x a.id ≡ false)
    go n f (inl i) = (inl i, ne_eqb x a.id (λ h. eqb-false s.id x n (ap (λ (v : Plugin). v.id) i ∙ sym h)))
    go n f (inr w) = let r = f w in (inr r.0, r.1)

pub added_in : (ps : Places) (q a : Plugin) → In a (held (at_lowest_free q ps)) → (a ≡ q) ⊎ In a (held ps)
added_in [] q a h = elim h [ ]
added_in (None ∷ ps) q a (inl i) = inl (sym i)
added_in (None ∷ ps) q a (inr m) = inr m
added_in (Some s ∷ ps) q a (inl i) = inr (inl i)
added_in (Some s ∷ ps) q a (inr m) = ⊎_elim inl (λ w. inr (inr w)) (added_in ps q a m)
