-- Tests and lists, as the rules use them. Nothing here is of document 01.
use Rattle.std.specs.Prelude.{ℕ, ◌+◌, Bool, true, false, ◌&&◌, ◌||◌, List, [], ◌∷◌, eqb, Option, Some, None}

abbrev pub pick : {A : Type 0} → Bool → A → A → A
pick true a b = a
pick false a b = b

abbrev pub any : {A : Type 0} → (A → Bool) → List A → Bool
any f [] = false
any f (x ∷ xs) = f x || any f xs

abbrev pub all : {A : Type 0} → (A → Bool) → List A → Bool
all f [] = true
all f (x ∷ xs) = f x && all f xs

-- the first element that passes
abbrev pub first : {A : Type 0} → (A → Bool) → List A → Option A
first f [] = None
first f (x ∷ xs) = pick (f x) (Some x) (first f xs)

abbrev pub is_some : {A : Type 0} → Option A → Bool
is_some None = false
is_some (Some a) = true

abbrev pub is_none : {A : Type 0} → Option A → Bool
is_none None = true
is_none (Some a) = false

infixr 25 ◌⊃◌
-- if .. then ..
abbrev pub ◌⊃◌ : Bool → Bool → Bool
true ⊃ b = b
false ⊃ b = true

abbrev pub every : List Bool → Bool
every [] = true
every (b ∷ bs) = b && every bs

-- those that pass
abbrev pub only : {A : Type 0} → (A → Bool) → List A → List A
only f [] = []
only f (x ∷ xs) = pick (f x) (x ∷ only f xs) (only f xs)

-- whether there is one, and it passes
abbrev pub holds : {A : Type 0} → (A → Bool) → Option A → Bool
holds f None = false
holds f (Some a) = f a

-- none, or one that passes
abbrev pub or_none : {A : Type 0} → (A → Bool) → Option A → Bool
or_none f None = true
or_none f (Some a) = f a

abbrev pub or_else : {A : Type 0} → Option A → A → A
or_else None b = b
or_else (Some a) b = a

abbrev pub same_numbers : List ℕ → List ℕ → Bool
same_numbers [] [] = true
same_numbers [] (y ∷ ys) = false
same_numbers (x ∷ xs) [] = false
same_numbers (x ∷ xs) (y ∷ ys) = eqb x y && same_numbers xs ys

-- two of the numbers are alike
abbrev pub twice : List ℕ → Bool
twice [] = false
twice (n ∷ ns) = any (eqb n) ns || twice ns

abbrev pub sum : {A : Type 0} → (A → ℕ) → List A → ℕ
sum f [] = 0
sum f (x ∷ xs) = f x + sum f xs

-- no and yes, as numbers
abbrev pub yes_no : Bool → ℕ
yes_no true = 1
yes_no false = 0

-- a number or none, as an answer's numbers
abbrev pub one : Option ℕ → List ℕ
one None = []
one (Some n) = n ∷ []

-- 2^64 − 1, the last number
abbrev pub last : ℕ
last = 18446744073709551615
