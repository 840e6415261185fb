-- What the answers that many operations share say, in document 01's numbers; none is no number.
use Rattle.std.specs.Prelude.{ℕ, ◌≡◌, refl, Bool, true, false, List, [], ◌∷◌, Option, Some, None, Result, Ok, Err}
use Rattle.std.proofs.Common.{ap, ◌∙◌}
use Rattle.rules.specs.Basics.{pick, one, yes_no}
use Rattle.rules.specs.Refusals.{Refusal, number, refusal_exact}
use Rattle.rules.specs.Outcomes.{Answer, Refused, Accepted, Check}

-- an acceptance with the numbers of its value, or a refusal with its number
abbrev pub answered : {T : Type 0} → (T → List ℕ) → Result T Refusal → Answer
answered f (Ok x) = Accepted (f x)
answered f (Err why) = Refused (number why) []

-- an operation without a value
abbrev pub done_answer : Result Unit Refusal → Answer
done_answer r = answered (λ _. []) r

-- yes is 1, no is 0
abbrev pub whether_answer : Result Bool Refusal → Answer
whether_answer r = answered (λ b. yes_no b ∷ []) r

abbrev pub number_answer : Result ℕ Refusal → Answer
number_answer r = answered (λ n. n ∷ []) r

-- a number or none
abbrev pub perhaps_answer : Result (Option ℕ) Refusal → Answer
perhaps_answer r = answered one r

abbrev pub option_answer : Option ℕ → Answer
option_answer o = Accepted (one o)

-- what a run of checks comes to: passed, or the first check that refuses
unfoldable pub verdict : List Check → Result Unit Refusal
verdict [] = Ok tt
verdict (c ∷ cs) = pick c.test (Err c.refusal) (verdict cs)

-- Any two that say the same are equal, if the numbers tell the values apart.
module _ {T : Type 0} (f : T → List ℕ) (exact : (x y : T) → f x ≡ f y → x ≡ y) where
  pub answered_exact : (a b : Result T Refusal) → answered f a ≡ answered f b → a ≡ b
  answered_exact (Ok x) (Ok y) e = let j : f x ≡ f y = cc in ap Ok (exact x y j)
  answered_exact (Ok x) (Err k) e = cc
  answered_exact (Err n) (Ok y) e = cc
  answered_exact (Err n) (Err k) e = let j : number n ≡ number k = cc in ap Err (refusal_exact n k j)

unit_exact : (x y : Unit {0}) → ◌≡◌ {A = List ℕ} [] [] → x ≡ y
unit_exact x y e = refl

bool_exact : (x y : Bool) → ◌≡◌ {A = List ℕ} (yes_no x ∷ []) (yes_no y ∷ []) → x ≡ y
bool_exact true true e = refl
bool_exact true false e = cc
bool_exact false true e = cc
bool_exact false false e = refl

number_alone : (x y : ℕ) → ◌≡◌ {A = List ℕ} (x ∷ []) (y ∷ []) → x ≡ y
number_alone x y e = cc

pub one_exact : (x y : Option ℕ) → one x ≡ one y → x ≡ y
one_exact (Some n) (Some k) e = let j : n ≡ k = cc in ap Some j
one_exact (Some n) None e = cc
one_exact None (Some k) e = cc
one_exact None None e = refl

pub done_exact : (a b : Result Unit Refusal) → done_answer a ≡ done_answer b → a ≡ b
done_exact a b e = answered_exact (λ _. []) unit_exact a b e

pub whether_exact : (a b : Result Bool Refusal) → whether_answer a ≡ whether_answer b → a ≡ b
whether_exact a b e = answered_exact _ bool_exact a b e

pub number_exact : (a b : Result ℕ Refusal) → number_answer a ≡ number_answer b → a ≡ b
number_exact a b e = answered_exact _ number_alone a b e

pub perhaps_exact : (a b : Result (Option ℕ) Refusal) → perhaps_answer a ≡ perhaps_answer b → a ≡ b
perhaps_exact a b e = answered_exact one one_exact a b e

pub option_answer_exact : (a b : Option ℕ) → option_answer a ≡ option_answer b → a ≡ b
option_answer_exact a b e = let j : one a ≡ one b = cc in one_exact a b j
