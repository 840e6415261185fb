-- What the answers to questions say in document 01's numbers; none is no number.
use Rattle.std.specs.Prelude.{ℕ, ◌≡◌, refl, List, [], ◌∷◌, Option, Some, None, Result}
use Rattle.std.proofs.Common.{arith, ap}
use Rattle.rules.specs.Answers.{answered, answered_exact}
use Rattle.rules.specs.Outcomes.{Answer}
use Rattle.rules.specs.Queries.{root_numbers}
use Rattle.rules.specs.Holds.{edition_number, default_of}
use Rattle.rules.specs.Refusals.{Refusal}
use Rattle.rules_types.specs.declared.Port.{Port}
use Rattle.rules_types.specs.declared.Root.{Root}
use Rattle.ports_realms.specs.Answers.{one_port, one_port_exact}
use Rattle.rules_types.specs.declared.Edition.{Edition}
use Rattle.rules_types.specs.declared.Edition.TheVariants.{First, Second}

-- a port or none
abbrev pub port_numbers : Option Port → List ℕ
port_numbers (Some q) = one_port q
port_numbers None = []

abbrev pub port_answer : Result (Option Port) Refusal → Answer
port_answer r = answered port_numbers r

abbrev pub root_answer : Result Root Refusal → Answer
root_answer r = answered root_numbers r

abbrev pub edition_numbers : Edition → List ℕ
edition_numbers e = edition_number e ∷ default_of e ∷ []

abbrev pub edition_answer : Result Edition Refusal → Answer
edition_answer r = answered edition_numbers r

-- Any two outcomes that such a promise allows are equal.
port_alone : (p q : Option Port) → port_numbers p ≡ port_numbers q → p ≡ q
port_alone (Some p) (Some q) e = ap Some (one_port_exact p q e)
port_alone (Some p) None e = cc
port_alone None (Some q) e = cc
port_alone None None e = refl

pub port_exact : (a b : Result (Option Port) Refusal) → port_answer a ≡ port_answer b → a ≡ b
port_exact a b e = answered_exact port_numbers port_alone a b e

edition_alone : (p q : Edition) → edition_numbers p ≡ edition_numbers q → p ≡ q
edition_alone First First e = refl
edition_alone First (Second d) e = let z : ◌≡◌ {A = ℕ} 1 2 = cc in absurd (omega arith)
edition_alone (Second c) First e = let z : ◌≡◌ {A = ℕ} 2 1 = cc in absurd (omega arith)
edition_alone (Second c) (Second d) e = let i : c ≡ d = cc in ap Second i

pub edition_exact : (a b : Result Edition Refusal) → edition_answer a ≡ edition_answer b → a ≡ b
edition_exact a b e = answered_exact edition_numbers edition_alone a b e
