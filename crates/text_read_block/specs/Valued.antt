-- How many of some provisions have a value: none, or all of them.
use Rattle.std.specs.Prelude.{ℕ, suc, ◌+◌, ◌≤◌, ◌≡◌, refl, Bool, true, false, not, ◌&&◌, ◌||◌, List, [], ◌∷◌, ◌++◌, eqb, length, Option, Some, None}
use Rattle.std.proofs.Common.{arith, sym, ap, ◌∙◌, eqb-true, eq-eqb, ne_eqb}
use Rattle.std.proofs.lemmas.Bool.{eqb-false}
use Rattle.rules.specs.Basics.{any, all, is_some, is_none, yes_no}
use Rattle.rules.specs.Holds.{Provision}
use Rattle.rules_laws.specs.Laws.Tests.{by_test}

abbrev pub valued_of : List Provision → ℕ
valued_of [] = 0
valued_of (v ∷ vs) = yes_no (is_some v.value) + valued_of vs

pub valued_snoc : (vs : List Provision) (v : Provision) → valued_of (vs ++ v ∷ []) ≡ valued_of vs + yes_no (is_some v.value)
valued_snoc [] v = omega arith
valued_snoc (w ∷ vs) v = let h = valued_snoc vs v in omega arith

pub valued_most : (vs : List Provision) → valued_of vs ≤ length vs
valued_most [] = omega arith
valued_most (v ∷ vs) = let h = valued_most vs in let o = one (is_some v.value) in omega arith
  where
    one : (b : Bool) → yes_no b ≤ 1
    one true = omega arith
    one false = omega arith

-- a number that both have in front
same_behind : (n a b : ℕ) → eqb (n + a) (n + b) ≡ eqb a b
same_behind n a b = by_test (eqb a b)
    (λ y. let e = eqb-true a b y in y' y (eq-eqb (n + a) (n + b) (omega arith)))
    (λ f. let e = eqb-false a b f in y' f (ne_eqb (n + a) (n + b) (λ i. e (omega arith))))
  where
    y' : {c : Bool} → eqb a b ≡ c → eqb (n + a) (n + b) ≡ c → eqb (n + a) (n + b) ≡ eqb a b
    y' p q = q ∙ sym p

pub valued_none : (vs : List Provision) → eqb (valued_of vs) 0 ≡ all (λ (v : Provision). is_none v.value) vs
valued_none [] = refl
valued_none (v ∷ vs) = go v.value (valued_none vs)
  where
    go : (o : Option ℕ) → eqb (valued_of vs) 0 ≡ all (λ (v : Provision). is_none v.value) vs
        → eqb (yes_no (is_some o) + valued_of vs) 0 ≡ (is_none o && all (λ (v : Provision). is_none v.value) vs)
    go None h = same_behind 0 (valued_of vs) 0 ∙ h
    go (Some n) h = ne_eqb (1 + valued_of vs) 0 (λ i. omega arith)

pub valued_all : (vs : List Provision) → eqb (valued_of vs) (length vs) ≡ not (any (λ (v : Provision). is_none v.value) vs)
valued_all [] = refl
valued_all (v ∷ vs) = go v.value (valued_all vs)
  where
    go : (o : Option ℕ) → eqb (valued_of vs) (length vs) ≡ not (any (λ (v : Provision). is_none v.value) vs)
        → eqb (yes_no (is_some o) + valued_of vs) (suc (length vs)) ≡ not (is_none o || any (λ (v : Provision). is_none v.value) vs)
    go None h = let m = valued_most vs in ne_eqb (0 + valued_of vs) (suc (length vs)) (λ i. omega arith)
    go (Some n) h = let e : 1 + length vs ≡ suc (length vs) = omega arith in ap (eqb (1 + valued_of vs)) (sym e) ∙ same_behind 1 (valued_of vs) (length vs) ∙ h
