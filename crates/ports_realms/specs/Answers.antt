-- What the answers of this crate's functions say, in document 01's numbers and values.
use Rattle.std.specs.Prelude.{ℕ, ◌≡◌, List, [], ◌∷◌, Result}
use Rattle.rules_types.specs.declared.Port.{Port}
use Rattle.rules.specs.Refusals.{Refusal}
use Rattle.rules.specs.Outcomes.{Answer}
use Rattle.rules.specs.Answers.{answered, answered_exact}
use Rattle.rules.specs.Ports.{flat}
use Rattle.ports_realms.specs.Halving.{by_halving, comparisons}
use Rattle.ports_realms.specs.declared.Lookup.{Lookup}

abbrev pub one_port : Port → List ℕ
one_port q = flat (q ∷ [])

abbrev pub resolved_answer : Result Port Refusal → Answer
resolved_answer r = answered one_port r

-- what a search by halving answers
abbrev pub searched : ℕ → List Port → ℕ → Lookup
searched other rows k = record { port = by_halving other rows k; comparisons = comparisons k rows }

-- Any two outcomes that the promise of a resolved key allows are equal.
pub one_port_exact : (p q : Port) → one_port p ≡ one_port q → p ≡ q
one_port_exact p q e =
    let k : p.key ≡ q.key = cc in
    let r : p.realm ≡ q.realm = cc in
    λ i. record { key = k i; realm = r i }

pub resolved_exact : (a b : Result Port Refusal) → resolved_answer a ≡ resolved_answer b → a ≡ b
resolved_exact a b e = answered_exact one_port one_port_exact a b e
