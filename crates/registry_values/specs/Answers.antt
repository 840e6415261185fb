-- What a reading says in document 01's numbers.
use Rattle.std.specs.Prelude.{ℕ, ◌≡◌, List, [], ◌∷◌, Result}
use Rattle.rules.specs.Answers.{answered, answered_exact}
use Rattle.rules.specs.Outcomes.{Answer}
use Rattle.rules.specs.Refusals.{Refusal}
use Rattle.registry_values.specs.declared.Reading.{Reading}

abbrev pub reading_numbers : Reading → List ℕ
reading_numbers x = x.value ∷ x.provider ∷ []

abbrev pub reading_answer : Result Reading Refusal → Answer
reading_answer r = answered reading_numbers r

-- Any two outcomes that such a promise allows are equal.
reading_alone : (x y : Reading) → reading_numbers x ≡ reading_numbers y → x ≡ y
reading_alone x y e =
    let v : x.value ≡ y.value = cc in
    let p : x.provider ≡ y.provider = cc in
    λ i. record { value = v i; provider = p i }

pub reading_exact : (a b : Result Reading Refusal) → reading_answer a ≡ reading_answer b → a ≡ b
reading_exact a b e = answered_exact reading_numbers reading_alone a b e
