-- What callers read off a lookup's answer.
use Rattle.std.specs.Prelude.{ℕ, suc, ◌+◌, ◌-◌, ◌≤◌, ◌<◌, ◌≡◌, refl, List, [], ◌∷◌, eqb, length, get_or, Option, Some, None}
use Rattle.std.proofs.Common.{arith, ◌∙◌, eqb-true}
use Rattle.rules_types.specs.declared.Port.{Port}
use Rattle.rules.specs.Holds.{port}
use Rattle.rules.specs.Ports.{flat}
use Rattle.rules.specs.Dependencies.{first_port}
use Rattle.rules_laws.specs.Laws.Tests.{by_test}
use Rattle.ports.specs.Answers.{first_from}

-- row i is the first port with the key, and what is answered
pub record First (k i : ℕ) (ps : List Port) : Type 0 where
  pub within : i < length ps
  pub has_key : (get_or ps i (port 0 0)).key ≡ k
  pub answer : first_port k ps ≡ flat (get_or ps i (port 0 0) ∷ [])

-- the same of a place that is counted from j
FirstOf : ℕ → Option ℕ → ℕ → List Port → Type 0
FirstOf j (Some i) k ps = (j ≤ i) × First k (i - j) ps
FirstOf j None k ps = first_port k ps ≡ []

further : (f : Option ℕ) (j k : ℕ) (p : Port) (ps : List Port) → first_port k (p ∷ ps) ≡ first_port k ps → FirstOf (j + 1) f k ps → FirstOf j f k (p ∷ ps)
unfolding FirstOf
further (Some i) j k p ps e (h, r) =
    let s : i - j ≡ suc (i - (j + 1)) = omega arith in
    (omega arith, rw s (record { within = omega (arith, r.within); has_key = r.has_key; answer = e ∙ r.answer }))
further None j k p ps e r = e ∙ r

first_of : (j k : ℕ) (ps : List Port) → FirstOf j (first_from j k ps) k ps
unfolding first_from FirstOf
first_of j k [] = refl
first_of j k (p ∷ ps) =
    let r = first_of (j + 1) k ps in
    by_test (eqb p.key k)
    (λ t. let z : j - j ≡ 0 = omega arith in
    rw t (omega arith, rw z (record { within = omega arith; has_key = eqb-true p.key k t; answer = rw t })))
    (λ f. rw f (further (first_from (j + 1) k ps) j k p ps (rw f) r))

pub first_port_law : (k : ℕ) (ps : List Port) (i : ℕ) → first_from 0 k ps ≡ Some i → First k i ps
unfolding FirstOf
first_port_law k ps i e = let z : i - 0 ≡ i = omega arith in rw z at (rw e at (first_of 0 k ps)).1

pub first_port_none : (k : ℕ) (ps : List Port) → first_from 0 k ps ≡ None → first_port k ps ≡ []
unfolding FirstOf
first_port_none k ps e = rw e at (first_of 0 k ps)
