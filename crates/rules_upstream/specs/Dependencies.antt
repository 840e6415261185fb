-- Upstream's clauses on R's dependency list.
use Rattle.std.specs.Prelude.{ℕ, ◌≡◌, refl, Bool, true, false, not, ◌&&◌, ◌||◌, List, [], ◌∷◌, ◌++◌, map, ◌↔◌, eqb}
use Rattle.std.proofs.Common.{sym, ap, ◌∙◌, true≢false, append-nil, append_assoc, inl, inr}
use Rattle.std.proofs.Math.Bool.{and-false, or-false, or-true, or_assoc, and-or_distrib_left}
use Rattle.rules.specs.Basics.{pick, any}
use Rattle.rules_types.specs.declared.Port.{Port}
use Rattle.rules.specs.Holds.{Realms, same_port, is_in}
use Rattle.rules.specs.Ports.{flat, resolve}
use Rattle.rules.specs.Dependencies.{candidates, own_ports, skipped, inherit, dependency_list, first_port}
use Rattle.rules.specs.Registration.{repeats}
use Rattle.rules.specs.Values.{is_empty}
use Rattle.rules_laws.specs.Laws.Tests.{by_test, neither}
use Rattle.rules_laws.specs.Laws.Members.{In, same_port_lem, is_in_lem, in_behind, same_swap, same_self}

-- R has_port, S declares: the test is membership.
pub is_in_exactly : (k : Port) (l : List Port) → is_in k l ≡ true ↔ In k l
is_in_exactly k l = (is_in_lem k l, into l)
  where
    into : (l : List Port) → In k l → is_in k l ≡ true
    into [] h = elim h [ ]
    into (x ∷ l) (inl i) = rw (ap (same_port k) i ∙ same_self k)
    into (x ∷ l) (inr m) = rw (into l m, or-true)

-- a port is appended unless a test holds
appended : (c : Bool) (l : List Port) (p q : Port) → is_in p (pick c l (l ++ q ∷ [])) ≡ (is_in p l || (not c && same_port p q))
appended true l p q = sym (or-false _)
appended false l p q = in_behind p q l

absorb : (a b : Bool) → (a || (not (b || a) && true)) ≡ (a || (not b && true))
absorb true b = refl
absorb false b = rw or-false

-- R inherit_one: the list contains what it contained, and the port unless that is one of the plugin's own.
pub inherit_one : (own l : List Port) (p q : Port)
    → is_in p (pick (skipped own l q) l (l ++ q ∷ [])) ≡ (is_in p l || (not (is_in p own) && same_port p q))
inherit_one own l p q = appended (skipped own l q) l p q ∙ by_test (same_port p q)
    (λ y. let i = same_port_lem p q y in rw (y, ap (λ x. is_in x own) i, ap (λ x. is_in x l) i) (absorb (is_in p l) (is_in p own)))
    (λ n. rw n (simp and-false))

-- R inherit_dependencies: .. and each candidate that is none of its own.
pub inherit_in : (own cs l : List Port) (p : Port) → is_in p (inherit own cs l) ≡ (is_in p l || (not (is_in p own) && is_in p cs))
inherit_in own [] l p = rw (and-false, or-false)
inherit_in own (q ∷ qs) l p = inherit_in own qs _ p ∙ rw (inherit_one own l p q, or_assoc, and-or_distrib_left)

-- R inherited_at: some port of the parent's list is p, or has a key that resolves to p. These are the candidates.
abbrev pub inherited_at : List Port → Realms → Port → Bool
inherited_at parents z p = any (λ (q : Port). same_port p q || same_port p (resolve z q.key)) parents

pub candidates_in : (z : Realms) (parents : List Port) (p : Port) → is_in p (candidates z parents) ≡ inherited_at parents z p
candidates_in z [] p = refl
candidates_in z (q ∷ qs) p = rw (candidates_in z qs p, or_assoc)

module _ (z : Realms) (provisions : List Port) (anchor : Port) (keys : List ℕ) (parents : List Port) where
  abbrev declared : List Port
  declared = map (resolve z) keys

  abbrev finished : List Port
  finished = dependency_list z provisions anchor keys parents

  -- R registered_dependencies: a declared port, or one that is inherited and no provision.
  abbrev pub registered_dependencies : Port → Bool
  registered_dependencies p = is_in p declared || (not (is_in p provisions) && inherited_at parents z p)

  -- Here a port is inherited if it is neither provision nor anchor.
  pub dependencies_in : (p : Port) → is_in p finished ≡ (is_in p declared || (not (is_in p provisions || same_port p anchor) && inherited_at parents z p))
  unfolding dependency_list
  dependencies_in p = inherit_in (own_ports provisions anchor) (candidates z parents) _ p ∙ rw (candidates_in, in_behind p anchor provisions)

  -- Of its own ports a plugin depends on those that it declares, and on no other,
  pub own_declared : (p : Port) → is_in p (own_ports provisions anchor) ≡ true → is_in p finished ≡ is_in p declared
  unfolding dependency_list
  own_declared p o = inherit_in (own_ports provisions anchor) (candidates z parents) _ p ∙ rw (o, or-false)

  -- .. and the anchor is one.
  pub anchor_declared : is_in anchor finished ≡ is_in anchor declared
  anchor_declared = own_declared anchor (in_behind anchor anchor provisions ∙ rw (same_self anchor, or-true))

-- R distinct_ports, as far as can be seen: no two places of the list hold the same port. So behind a port it does not stand again,
pub distinct_apart : (before behind : List Port) (q : Port) → repeats (before ++ q ∷ behind) ≡ false → is_in q behind ≡ false
distinct_apart [] behind q e = (neither (is_in q behind) (repeats behind) e).0
distinct_apart (x ∷ before) behind q e =
    distinct_apart before behind q (neither (is_in x (before ++ q ∷ behind)) (repeats (before ++ q ∷ behind)) e).1

-- .. and where ports repeat, one does.
pub record Twice (l : List Port) : Type 0 where
  pub before : List Port
  pub behind : List Port
  pub port : Port
  pub split : l ≡ before ++ port ∷ behind
  pub again : is_in port behind ≡ true

pub repeats_twice : (l : List Port) → repeats l ≡ true → Twice l
repeats_twice [] e = absurd (true≢false (sym e))
repeats_twice (x ∷ l) e = by_test (is_in x l)
    (λ y. record { before = []; behind = l; port = x; split = refl; again = y })
    (λ n. let w = repeats_twice l (rw n at e) in record {
      before = x ∷ w.before;
      behind = w.behind;
      port = w.port;
      split = ap (λ m. x ∷ m) w.split;
      again = w.again;
    })

regroup : (a b c d : Bool) → ((a || b) || (c || d)) ≡ ((a || c) || (b || d))
regroup true b c d = refl
regroup false true c d = sym (or-true c)
regroup false false c d = refl

repeats_append : (l : List Port) (q : Port) → repeats (l ++ q ∷ []) ≡ (repeats l || is_in q l)
repeats_append [] q = refl
repeats_append (x ∷ l) q = rw (in_behind x q l, repeats_append l q, same_swap x q) (regroup (is_in x l) (same_port q x) _ _)

-- R inherit_one, inherit_dependencies: distinct_ports stays as it was,
pub one_distinct : (own l : List Port) (q : Port) → repeats (pick (skipped own l q) l (l ++ q ∷ [])) ≡ repeats l
one_distinct own l q = by_test (skipped own l q)
    (λ y. rw y)
    (λ n. rw n (repeats_append l q ∙ rw ((neither (is_in q own) (is_in q l) n).1, or-false)))

pub inherit_distinct : (own cs l : List Port) → repeats (inherit own cs l) ≡ repeats l
inherit_distinct own [] l = refl
inherit_distinct own (q ∷ qs) l = inherit_distinct own qs _ ∙ one_distinct own l q

inherit_keeps : (own cs l : List Port) → (m : List Port) × (inherit own cs l ≡ l ++ m)
inherit_keeps own [] l = ([], sym (append-nil l))
inherit_keeps own (q ∷ qs) l = by_test (skipped own l q)
    (λ y. rw y (inherit_keeps own qs l))
    (λ n. let (m, e) = inherit_keeps own qs (l ++ q ∷ []) in (q ∷ m, rw n (e ∙ append_assoc l (q ∷ []) m)))

module _ (z : Realms) (provisions : List Port) (anchor : Port) (keys : List ℕ) (parents : List Port) where
  -- .. so a finished list names a port twice only if two declared keys resolve alike.
  pub dependencies_distinct : repeats (dependency_list z provisions anchor keys parents) ≡ repeats (map (resolve z) keys)
  unfolding dependency_list
  dependencies_distinct = inherit_distinct (own_ports provisions anchor) (candidates z parents) _

  -- R resolve_keys, and the comment on dependency_port: the declared keys resolved, in order, and only then what is inherited.
  pub declared_first : (m : List Port) × (dependency_list z provisions anchor keys parents ≡ map (resolve z) keys ++ m)
  unfolding dependency_list
  declared_first = inherit_keeps (own_ports provisions anchor) (candidates z parents) (map (resolve z) keys)

-- The first of a list that passes a test: where it stands.
pub record First {A : Type 0} (f : A → Bool) (l : List A) (a : A) : Type 0 where
  pub before : List A
  pub behind : List A
  pub split : l ≡ before ++ a ∷ behind
  pub member : In a l
  pub passes : f a ≡ true
  pub earlier : any f before ≡ false

module _ {A : Type 0} (f : A → Bool) (g : A → Port) where
  -- its port, or none
  abbrev pub first_of : List A → List ℕ
  first_of [] = []
  first_of (x ∷ l) = pick (f x) (flat (g x ∷ [])) (first_of l)

  pub first_of_none : (l : List A) → is_empty (first_of l) ≡ not (any f l)
  first_of_none [] = refl
  first_of_none (x ∷ l) = by_test (f x) (λ y. rw y) (λ n. rw n (first_of_none l))

  pub first_of_some : (l : List A) → any f l ≡ true → (a : A) × (first_of l ≡ flat (g a ∷ [])) × First f l a
  first_of_some [] e = absurd (true≢false (sym e))
  first_of_some (x ∷ l) e = by_test (f x)
      (λ y. (x, rw y, record { before = []; behind = l; split = refl; member = inl refl; passes = y; earlier = refl }))
      (λ n. let (a, i, w) = first_of_some l (rw n at e) in (
        a,
        rw n i,
        record {
          before = x ∷ w.before;
          behind = w.behind;
          split = ap (λ m. x ∷ m) w.split;
          member = inr w.member;
          passes = w.passes;
          earlier = rw n w.earlier;
        },
      ))

-- R dependency_port: none exactly if no port has the key; otherwise the first one that has it.
abbrev pub has_key : ℕ → Port → Bool
has_key k p = eqb p.key k

first_port_lem : (k : ℕ) (l : List Port) → first_port k l ≡ first_of (has_key k) (λ p. p) l
first_port_lem k [] = refl
first_port_lem k (p ∷ l) = rw (first_port_lem k l)

pub dependency_none : (k : ℕ) (l : List Port) → is_empty (first_port k l) ≡ not (any (has_key k) l)
dependency_none k l = rw (first_port_lem k l) (first_of_none (has_key k) (λ p. p) l)

pub dependency_some : (k : ℕ) (l : List Port) → any (has_key k) l ≡ true → (p : Port) × (first_port k l ≡ flat (p ∷ [])) × First (has_key k) l p
dependency_some k l e = rw (first_port_lem k l) (first_of_some (has_key k) (λ p. p) l e)
