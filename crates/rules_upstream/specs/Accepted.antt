-- What upstream says of every operation: exactly when it is accepted, and what it then does to one plugin.
use Rattle.std.specs.Prelude.{ℕ, ◌≤◌, ◌≡◌, refl, Bool, true, false, not, ◌&&◌, ◌||◌, List, [], ◌∷◌, map, eqb, ltb, Option, Some, None}
use Rattle.std.proofs.Common.{arith, sym, ap, ◌∙◌, subst, true≢false, inl, inr, eqb-true, lt-ltb, le-ltb}
use Rattle.std.proofs.Math.Bool.{and-true, and_assoc, not-not}
use Rattle.std.proofs.lemmas.Bool.{eqb-false}
use Rattle.rules.specs.Basics.{holds}
use Rattle.rules.specs.Holds.{Plugin, Registry, lookup}
use Rattle.rules.specs.Refusals.{number}
use Rattle.rules.specs.Outcomes.{Refused, Accepted, Outcome, stores, answer_of, after, Check, checked, found, known}
use Rattle.rules.specs.Admission.{is_accepted}
use Rattle.rules_laws.specs.Laws.Tests.{by_test, Passed, checked_elim, found_elim}
use Rattle.rules_laws.specs.Laws.Lookups.{lookup_id}
use Rattle.rules_laws.specs.Laws.Members.{In}
use Rattle.rules_laws.specs.Kept.Places.{Only, only_stored}
use Rattle.rules_laws.specs.Kept.Plugins.{Alike}

-- An operation is accepted exactly if no test refuses.
abbrev pub accepted : Outcome → Bool
accepted u = is_accepted (answer_of u)

abbrev pub passed : List Check → Bool
passed [] = true
passed (c ∷ cs) = not c.test && passed cs

pub checked_accepted : (cs : List Check) (u : Outcome) → accepted (checked cs u) ≡ (passed cs && accepted u)
unfolding checked
checked_accepted [] u = refl
checked_accepted (c ∷ cs) u = by_test c.test (λ y. rw y) (λ n. rw n (checked_accepted cs u))

pub found_accepted : (u : Option Plugin) (f : Plugin → Outcome) → accepted (found u f) ≡ holds (λ p. accepted (f p)) u
unfolding found
found_accepted None f = refl
found_accepted (Some p) f = refl

pub neither_of : (a b : Bool) → not (not a || not b) ≡ (a && b)
neither_of true b = not-not b
neither_of false b = refl

pub checked_done : (cs : List Check) (u : Outcome) → accepted u ≡ true → accepted (checked cs u) ≡ passed cs
checked_done cs u e = checked_accepted cs u ∙ ap (λ b. passed cs && b) e ∙ and-true _

-- all of it, for simp
pub ruleset exact = (checked_done, checked_accepted, found_accepted, not-not, neither_of, and-true, and_assoc)

-- A refusal has the number of one of the checks.
abbrev pub numbers : List Check → List ℕ
numbers cs = map (λ (c : Check). number c.refusal) cs

pub refused_among : (cs : List Check) (u : Outcome) (n : ℕ) (vs : List ℕ) → accepted u ≡ true → answer_of (checked cs u) ≡ Refused n vs → In n (numbers cs)
unfolding checked
refused_among [] u n vs a e = absurd (true≢false (sym a ∙ ap is_accepted e))
refused_among (c ∷ cs) u n vs a e = by_test c.test
    (λ y. let i : Refused (number c.refusal) [] ≡ Refused n vs = rw y at e in let j : number c.refusal ≡ n = cc in inl j)
    (λ z. inr (refused_among cs u n vs a (rw z at e)))

-- a test that holds of what there may be holds of what there is
pub held_by : {A : Type 0} (f : A → Bool) (u : Option A) → holds f u ≡ true → (a : A) × (u ≡ Some a) × (f a ≡ true)
held_by f None e = absurd (true≢false (sym e))
held_by f (Some a) e = (a, refl, e)

-- a number up to the last is not the last exactly if it is below
pub below : (n m : ℕ) → n ≤ m → not (eqb n m) ≡ ltb n m
below n m l = by_test (eqb n m)
    (λ y. let i = eqb-true n m y in rw y (sym (le-ltb n m (omega arith))))
    (λ y. let i = eqb-false n m y in rw y (sym (lt-ltb n m (omega arith))))

-- Where one plugin was, another one stands under its id; vs is answered. R same_identity: what registration fixed stays.
-- Nothing else changes.
pub record Turns (r : Registry) (id : ℕ) (was stands : Plugin) (vs : List ℕ) (u : Outcome) : Type 0 where
  pub answer : answer_of u ≡ Accepted vs
  pub only : Only r (after r u) id (Some was) (Some stands)
  pub domain : (after r u).domain ≡ r.domain
  pub next : (after r u).next ≡ r.next
  pub identity : Alike was stands

-- What an accepted operation does to the plugin under id: it answers vs of it, and f of it stands there afterwards.
pub record Effect (r : Registry) (id : ℕ) (vs : Plugin → List ℕ) (f : Plugin → Plugin) (u : Outcome) : Type 0 where
  pub was : Plugin
  pub turns : Turns r id was (f was) (vs was) u

-- if it is accepted
abbrev pub When : (Outcome → Type 0) → Outcome → Type 0
When P u = accepted u ≡ true → P u

-- .. its checks are passed
pub when_passed : (P : Outcome → Type 0) (cs : List Check) (u : Outcome) → (Passed cs → When P u) → When P (checked cs u)
when_passed P cs u h = checked_elim (When P) cs u (λ x t. absurd (true≢false (sym t))) h

module _ (r : Registry) where
  -- .. and its id is found
  pub when_known : (P : Outcome → Type 0) (id : ℕ) (f : Plugin → Outcome) → ((p : Plugin) → lookup r id ≡ Some p → When P (f p)) → When P (known r id f)
  when_known P id f h = found_elim (When P) (lookup r id) f (λ t. absurd (true≢false (sym t))) h

  pub stored_under : (id : ℕ) (p q : Plugin) (vs : List ℕ) → lookup r id ≡ Some p → q.id ≡ p.id → Only r (after r (stores q vs)) id (Some p) (Some q)
  stored_under id p q vs e h =
      let i = h ∙ lookup_id r id p e in
      subst (λ x. Only r (after r (stores q vs)) x (Some p) (Some q)) i (only_stored r vs p q (rw i e))

  pub turned : (id : ℕ) (p q : Plugin) (vs : List ℕ) → lookup r id ≡ Some p → Alike p q → Turns r id p q vs (stores q vs)
  unfolding after
  turned id p q vs e a = record { answer = refl; only = stored_under id p q vs e a.id; domain = refl; next = refl; identity = a }

  pub has_effect : (id : ℕ) (vs : Plugin → List ℕ) (f : Plugin → Plugin) (p : Plugin) → lookup r id ≡ Some p → Alike p (f p)
      → Effect r id vs f (stores (f p) (vs p))
  has_effect id vs f p e a = record { was = p; turns = turned id p (f p) (vs p) e a }
