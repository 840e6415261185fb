-- Upstream's clauses on S's provisions and reads.
use Rattle.std.specs.Prelude.{ℕ, Bool, false, ◌&&◌, ◌||◌, List, [], ◌∷◌, map, ◌⊎◌, ◌↔◌, eqb, Option, Some, None}
use Rattle.std.proofs.Common.{arith, sym, ◌∙◌, subst, true≢false, ⊎_elim}
use Rattle.std.proofs.Math.Path.{◌≡◌, refl, ap}
use Rattle.std.proofs.Math.Bool.{true, not, and-true, and-false, and_assoc, or-true}
use Rattle.std.proofs.lemmas.Simd.{map-map}
use Rattle.std.proofs.Math.Logic.{inl, inr}
use borrow.Author.Tests.{not-false}
use Rattle.rules.specs.Basics.{pick, any, all, is_some, is_none, holds, same_numbers, yes_no, one}
use Rattle.rules_types.specs.declared.Port.{Port}
use Rattle.rules_types.specs.declared.Phase.TheVariants.{Active}
use Rattle.rules.specs.Holds.{Provision, Registry, Plugin, plugins, lookup, provider, provided, provides, same_port, is_in}
use Rattle.rules.specs.Holds.{is_loading, is_active, running, with_provisions}
use Rattle.rules.specs.Outcomes.{Refused, Accepted, Outcome, answer_of, checked, found}
use Rattle.rules.specs.Ports.{pairs, odd_length, flat, same_ports}
use Rattle.rules.specs.Registration.{repeats}
use Rattle.rules.specs.Values.{value_in, offered, offer, own, is_empty, first_missing, matching, declares, given, served, read, seen, visible}
use Rattle.rules_laws.specs.Laws.Tests.{by_test, both, neither, found_elim}
use Rattle.rules_laws.specs.Laws.Members.{In, same_port_lem, is_in_lem, any_false, first_in_lem, first_none, lookup_in, same_swap, same_self}
use Rattle.rules_laws.specs.Laws.Table.{is_active_lem}
use Rattle.rules_laws.specs.Demand3.Lives.{same_true, same_of}
use Rattle.rules_laws.specs.Built.{Built}
use Rattle.rules_laws.specs.Kept.Places.{distinct}
use Rattle.rules_laws.specs.Kept.Plugins.{alike}
use Rattle.rules_upstream.specs.Accepted.{accepted, exact, refused_among, held_by, Effect, has_effect, When, when_passed, when_known}
use Rattle.rules_upstream.specs.Dependencies.{is_in_exactly, First, first_of, first_of_none, first_of_some}

-- The ports of provisions.
abbrev pub ports : List Provision → List Port
ports vs = map (λ (v : Provision). v.port) vs

map_in : {A B : Type 0} (f : A → B) (l : List A) (a : A) → In a l → In (f a) (map f l)
map_in {A = A} {B = B} f [] a h = elim h [ ]
map_in f (x ∷ l) a (inl i) = inl (ap f i)
map_in f (x ∷ l) a (inr m) = inr (map_in f l a m)

-- S keeps values by port. So does value_in, where no two provisions are alike.
pub value_of : (vs : List Provision) (v : Provision) → repeats (ports vs) ≡ false → In v vs → value_in v.port vs ≡ v.value
value_of [] v e h = elim h [ ]
value_of (w ∷ vs) v e (inl i) = subst (λ x. value_in x.port (w ∷ vs) ≡ x.value) i (rw (same_self w.port))
value_of (w ∷ vs) v e (inr m) =
    let c = neither (is_in w.port (ports vs)) (repeats (ports vs)) e in
    let n = any_false (same_port w.port) (ports vs) v.port c.0 (map_in (λ (v : Provision). v.port) vs v m) in
    rw (same_swap v.port w.port, n) (value_of vs v c.1 m)

offered_in : (k q : Port) (n : ℕ) (vs : List Provision) → value_in k (map (offered q n) vs) ≡ pick (same_port k q && is_in q (ports vs)) (Some n) (value_in k vs)
offered_in k q n [] = rw and-false
offered_in k q n (v ∷ vs) = rw (offered_in k q n vs) (by_test (same_port k q)
    (λ y. rw (ap (λ x. same_port x v.port) (same_port_lem k q y), y) (picks (same_port k v.port) (is_in q (ports vs)) (Some n) v.value (value_in k vs)))
    (λ z. rw z (by_test (same_port k v.port) (λ y. rw (ap (same_port q) (same_port_lem k v.port y) ∙ same_swap q k ∙ z)) (λ m. rw m))))
  where
    picks : (a b : Bool) (x y z : Option ℕ) → pick a (pick a x y) (pick b x z) ≡ pick (a || b) x (pick a y z)
    picks true b x y z = refl
    picks false b x y z = refl

-- S provide: the port's value becomes the one offered, every other stays;
pub offered_value : (k q : Port) (n : ℕ) (vs : List Provision) → is_in q (ports vs) ≡ true
    → value_in k (map (offered q n) vs) ≡ pick (same_port k q) (Some n) (value_in k vs)
offered_value k q n vs m = offered_in k q n vs ∙ rw (m, and-true)

module _ (r : Registry) (id : ℕ) (q : Port) (n : ℕ) where
  -- .. accepted exactly if Loading and not retired, the port a provision without a value;
  pub offer_exactly : accepted (offer r id q n)
      ≡ holds (λ p. is_loading p.phase && (not p.retired && (is_in q (provided p) && not (is_some (value_in q p.provisions))))) (lookup r id)
  unfolding offer
  offer_exactly = simp exact

  -- .. the values alone change.
  pub offer_effect : When (Effect r id (λ _. []) (λ p. with_provisions (map (offered q n) p.provisions) p)) (offer r id q n)
  unfolding offer
  offer_effect = when_known r (Effect r _ _ _) _ _ λ p e. when_passed (Effect r _ _ _) _ _ λ _ _.
      has_effect r _ _ _ p e (alike p (map-map _ (offered q n) p.provisions))

-- S own: the plugin's own value for the port, or none.
pub own_value : (r : Registry) (id : ℕ) (q : Port) (p : Plugin) → lookup r id ≡ Some p → answer_of (own r id q) ≡ Accepted (one (value_in q p.provisions))
unfolding own found
own_value r id q p e = rw e

-- Where no provision has a value, no port has one.
pub valueless : (vs : List Provision) → all (λ (v : Provision). is_none v.value) vs ≡ true → (q : Port) → value_in q vs ≡ None
valueless [] e q = refl
valueless (v ∷ vs) e q =
    let c = both (is_none v.value) _ e in
    by_test (same_port q v.port) (λ y. rw y (absent v.value c.0)) (λ n. rw n (valueless vs c.1 q))
  where
    absent : (u : Option ℕ) → is_none u ≡ true → u ≡ None
    absent None t = refl
    absent (Some x) t = absurd (true≢false (sym t))

-- S missing: none exactly if no provision lacks a value (complete); otherwise the first that lacks one.
abbrev pub lacks : Provision → Bool
lacks v = is_none v.value

first_missing_lem : (vs : List Provision) → first_missing vs ≡ first_of lacks (λ v. v.port) vs
first_missing_lem [] = refl
first_missing_lem (v ∷ vs) = rw (first_missing_lem vs)

pub missing_none : (vs : List Provision) → is_empty (first_missing vs) ≡ not (any lacks vs)
missing_none vs = rw (first_missing_lem vs) (first_of_none lacks (λ v. v.port) vs)

pub missing_some : (vs : List Provision) → any lacks vs ≡ true → (v : Provision) × (first_missing vs ≡ flat (v.port ∷ [])) × First lacks vs v
missing_some vs e = rw (first_missing_lem vs) (first_of_some lacks (λ v. v.port) vs e)

-- .. by port: where none lacks a value, each port has one; the port answered has none.
pub complete_values : (vs : List Provision) → any lacks vs ≡ false → (q : Port) → is_in q (ports vs) ≡ true → is_some (value_in q vs) ≡ true
complete_values [] e q m = m
complete_values (v ∷ vs) e q m =
    let c = neither (lacks v) (any lacks vs) e in
    by_test (same_port q v.port) (λ y. rw y (some_not v.value ∙ ap not c.0)) (λ n. rw n (complete_values vs c.1 q (rw n at m)))
  where
    some_not : (u : Option ℕ) → is_some u ≡ not (is_none u)
    some_not None = refl
    some_not (Some x) = refl

pub missing_value : (vs : List Provision) (v : Provision) → repeats (ports vs) ≡ false → First lacks vs v → is_none (value_in v.port vs) ≡ true
missing_value vs v e w = ap is_none (value_of vs v e w.member) ∙ w.passes

-- S matches_provisions: yes exactly if the list is the provision list, as key, realm, key, realm.
matching_numbers : (l : List ℕ) (ps : List Port) → (not (odd_length l) && same_ports (pairs l) ps) ≡ same_numbers l (flat ps)
matching_numbers [] [] = refl
matching_numbers [] (p ∷ ps) = refl
matching_numbers (k ∷ []) [] = refl
matching_numbers (k ∷ []) (p ∷ ps) = sym (and-false (eqb k p.key))
matching_numbers (k ∷ n ∷ l) [] = and-false (not (odd_length l))
matching_numbers (k ∷ n ∷ l) (p ∷ ps) = rw (← (matching_numbers l ps)) (later (not (odd_length l)) (eqb k p.key) (eqb n p.realm) (same_ports (pairs l) ps))
  where
    later : (a b c d : Bool) → (a && (b && c && d)) ≡ (b && (c && (a && d)))
    later true b c d = and_assoc b c d
    later false b c d = sym (ap (λ x. b && x) (and-false c) ∙ and-false b)

says_yes_lem : (b : Bool) → Accepted (yes_no b ∷ []) ≡ Accepted (1 ∷ []) → b ≡ true
says_yes_lem true e = refl
says_yes_lem false e = let z : ◌≡◌ {A = ℕ} 0 1 = cc in absurd (omega arith)

pub matches_provisions : (r : Registry) (id : ℕ) (l : List ℕ) (p : Plugin) → lookup r id ≡ Some p
    → answer_of (matching r id l) ≡ Accepted (1 ∷ []) ↔ l ≡ flat (provided p)
unfolding matching found
matches_provisions r id l p e = rw (e, matching_numbers l (provided p))
    (λ a. same_true l (flat (provided p)) (says_yes_lem _ a), λ i. rw (same_of l (flat (provided p)) i))

-- S declares_service: yes exactly if the port is a provision, or the plugin runs and it is a dependency.
pub declares_service : (r : Registry) (id : ℕ) (q : Port) (p : Plugin) → lookup r id ≡ Some p
    → answer_of (declares r id q) ≡ Accepted (1 ∷ []) ↔ (In q (provided p) ⊎ ((running p ≡ true) × In q p.dependencies))
unfolding declares found
declares_service r id q p e = rw e (
  λ a. let t = says_yes_lem (is_in q (provided p) || (running p && is_in q p.dependencies)) a in by_test (is_in q (provided p))
      (λ y. inl (is_in_lem q (provided p) y))
      (λ n. let c = both (running p) (is_in q p.dependencies) (rw n at t) in inr (c.0, is_in_lem q p.dependencies c.1)),
  ⊎_elim (λ m. rw ((is_in_exactly q (provided p)).1 m)) (λ c. rw (c.0, (is_in_exactly q p.dependencies).1 c.1, or-true)),
)

-- On a built registry a registered plugin that provides a port is its provider.
pub provider_is : (r : Registry) → Built r → (q : Port) (p : Plugin) → In p (plugins r) → provides p q ≡ true → provider r q ≡ Some p
unfolding provider
provider_is r b q p m g = go (provider r q) refl
  where
    go : (u : Option Plugin) → provider r q ≡ u → u ≡ Some p
    go None e = absurd (true≢false (sym g ∙ first_none (λ p. provides p q) (plugins r) p e m))
    go (Some a) e =
        let w = first_in_lem (λ p. provides p q) (plugins r) a e in
        let i = distinct r b.once a w.0 in
        let j = distinct r b.once p m in
        let k = b.wired.sole a.id p.id a p q i j w.1 g in
        cc

-- S visible: the value of a registered Active plugin that provides the port, exactly if there is one.
pub record Sees (r : Registry) (q : Port) (n : ℕ) : Type 0 where
  pub plugin : Plugin
  pub registered : In plugin (plugins r)
  pub gives : provides plugin q ≡ true
  pub active : plugin.phase ≡ Active
  pub value : value_in q plugin.provisions ≡ Some n

pub visible_exactly : (r : Registry) → Built r → (q : Port) (n : ℕ) → answer_of (visible r q) ≡ Accepted (n ∷ []) ↔ Sees r q n
unfolding visible provider
visible_exactly r b q n = (go (provider r q) refl, λ w. rw (provider_is r b q w.plugin w.registered w.gives) (rw (w.active, w.value)))
  where
    one_value : (u : Option ℕ) → Accepted (one u) ≡ Accepted (n ∷ []) → u ≡ Some n
    one_value None e = cc
    one_value (Some x) e = cc

    go : (u : Option Plugin) → provider r q ≡ u → Accepted (seen q u) ≡ Accepted (n ∷ []) → Sees r q n
    go None e a = let z : ◌≡◌ {A = ℕ} 0 1 = cc in absurd (omega arith)
    go (Some p) e a =
        let w = first_in_lem (λ p. provides p q) (plugins r) p e in
        by_test (is_active p.phase)
        (λ y. let i = one_value (value_in q p.provisions) (rw y at a) in
        record { plugin = p; registered = w.0; gives = w.1; active = is_active_lem p.phase y; value = i })
        (λ m. let h : Accepted [] ≡ Accepted (n ∷ []) = rw m at a in let z : ◌≡◌ {A = ℕ} 0 1 = cc in absurd (omega arith))

-- S read: what an accepted read tells.
pub record Reads (r : Registry) (id : ℕ) (q : Port) (u : Outcome) : Type 0 where
  pub reader : Plugin
  pub found : lookup r id ≡ Some reader
  pub runs : running reader ≡ true
  pub depends : In q reader.dependencies
  pub source : Plugin
  pub provides : provider r q ≡ Some source
  pub value : ℕ
  pub has : value_in q source.provisions ≡ Some value
  pub answer : answer_of u ≡ Accepted (value ∷ source.id ∷ [])
  -- refusal 15 keeps the provider Active
  pub active : Built r → source.phase ≡ Active

module _ (r : Registry) (id : ℕ) (q : Port) where
  valued : (u : Option Plugin) → not (is_empty (served q u)) ≡ holds (λ p. is_some (value_in q p.provisions)) u
  valued None = refl
  valued (Some p) = go (value_in q p.provisions)
    where
      go : (u : Option ℕ) → not (is_empty (given p u)) ≡ is_some u
      go None = refl
      go (Some n) = refl

  -- .. accepted exactly if it runs, depends on the port, and the provider has a value for it;
  pub read_exactly : accepted (read r id q)
      ≡ holds (λ p. running p && (is_in q p.dependencies && holds (λ b. is_some (value_in q b.provisions)) (provider r q))) (lookup r id)
  unfolding read
  read_exactly = simp (exact, valued)

  -- .. 22 if only the value is missing;
  pub read_missing : (p : Plugin) → lookup r id ≡ Some p → running p ≡ true → is_in q p.dependencies ≡ true
      → holds (λ b. is_some (value_in q b.provisions)) (provider r q) ≡ false → answer_of (read r id q) ≡ Refused 22 []
  unfolding read found checked
  read_missing p e y m n = let i = not-false (is_empty (served q (provider r q))) (valued (provider r q) ∙ n) in rw e (rw (y, m, i))

  -- .. it is refused with no number but these;
  pub read_refusals : (n : ℕ) (vs : List ℕ) → answer_of (read r id q) ≡ Refused n vs → In n (1 ∷ 19 ∷ 20 ∷ 22 ∷ [])
  unfolding read
  read_refusals n vs = found_elim (λ u. answer_of u ≡ Refused n vs → In n (1 ∷ 19 ∷ 20 ∷ 22 ∷ [])) (lookup r id) _
      (λ e. let j : ◌≡◌ {A = ℕ} 1 n = cc in inl j)
      (λ p e f. inr (refused_among _ _ n vs refl f))

  -- .. and then it answers the value and the provider's id.
  pub read_tells : When (Reads r id q) (read r id q)
  unfolding read
  read_tells = when_known r (Reads r id q) _ _ λ p e. when_passed (Reads r id q) _ _ λ c _.
      let y = not-false (running p) c.0 in
      let m = is_in_lem q p.dependencies (not-false _ c.1.0) in
      let (s, f, h) = held_by _ (provider r q) (sym (valued (provider r q)) ∙ ap not c.1.1.0) in
      let (n, i) = some_value (value_in q s.provisions) h in
      record {
        reader = p;
        found = e;
        runs = y;
        depends = m;
        source = s;
        provides = f;
        value = n;
        has = i;
        answer = ap (λ u. Accepted (served q u)) f ∙ ap (λ u. Accepted (given s u)) i;
        active = λ b.
            let v = b.wired.served q (record { id = id; plugin = p; registered = e; runs = y; depends = m }) in
            let g = provider_is r b q v.plugin (lookup_in r v.id v.plugin v.registered) v.gives in
            let j : s ≡ v.plugin = cc in
            ap (λ (x : Plugin). x.phase) j ∙ v.active;
      }
    where
      some_value : (u : Option ℕ) → is_some u ≡ true → (n : ℕ) × (u ≡ Some n)
      some_value None h = absurd (true≢false (sym h))
      some_value (Some n) h = (n, refl)
