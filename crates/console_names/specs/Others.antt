-- What two things come to for all operations but some, they come to at the place of any other.
use Prim.Native.Nat.{ℕ, zero, suc, ◌+◌}
use Prim.Native.String.{String}
use native.Mathlib.Omega.{arith}
use Rattle.std.specs.Prelude.{◌≡◌, refl, Bool, true, false, ◌||◌, eqb, get_or}
use Rattle.std.proofs.Common.{sym, ◌∙◌, ne_eqb}
use Rattle.std.proofs.Math.Path.{ap}
use mathlib.Core.List.{List, [], ◌∷◌}
use Rattle.rules.specs.Basics.{pick}
use Rattle.console_names.specs.Table.{Operation, operations, unknown, operation_at, place_of}

-- A place is that of none of these names, as a match on it leaves it.
abbrev pub Other : Type 0 → List String → ℕ → Type 0
Other N [] place = N
Other N (name ∷ names) place = Other (N × (place ≡ place_of name → ⊥)) names place

abbrev pub among : List String → ℕ → Bool
among [] place = false
among (name ∷ names) place = eqb place (place_of name) || among names place

not_among : (N : Type 0) (names : List String) (place : ℕ) → Other N names place → (among names place ≡ false) × N
not_among N [] place h = (refl, h)
not_among N (name ∷ names) place h =
    let r = not_among (N × (place ≡ place_of name → ⊥)) names place h in
    (rw (ne_eqb place (place_of name) r.1.1) r.0, r.1.0)

-- What each operation comes to, but for these names.
abbrev pub but : {A : Type 0} → A → List String → (Operation → A) → ℕ → List Operation → List A
but z names f i [] = f unknown ∷ []
but z names f i (o ∷ os) = pick (among names i) z (f o) ∷ but z names f (suc i) os

module _ {A : Type 0} (z : A) where
  front : List A → A
  front [] = z
  front (a ∷ l) = a

  behind : List A → List A
  behind [] = []
  behind (a ∷ l) = l

  unpicked : (b : Bool) (x y : A) → b ≡ false → pick b z x ≡ pick b z y → x ≡ y
  unpicked true x y h e = cc
  unpicked false x y h e = e

  module _ (names : List String) (f g : Operation → A) where
    same_in : (os : List Operation) (i k : ℕ) → but z names f i os ≡ but z names g i os → among names (i + k) ≡ false
        → f (get_or os k unknown) ≡ g (get_or os k unknown)
    unfolding front behind
    same_in [] i k e h = ap front e
    same_in (o ∷ os) i zero e h =
        let n : i + 0 ≡ i = omega arith in
        unpicked (among names i) (f o) (g o) (sym (ap (among names) n) ∙ h) (ap front e)
    same_in (o ∷ os) i (suc k) e h =
        let n : i + suc k ≡ suc i + k = omega arith in
        same_in os (suc i) k (ap behind e) (sym (ap (among names) n) ∙ h)

    -- Two that come to the same for all other names are the same at a place that is none of these.
    pub the_others : but z names f 0 operations ≡ but z names g 0 operations → (place : ℕ) → Other (Unit {0}) names place
        → f (operation_at place) ≡ g (operation_at place)
    unfolding operation_at
    the_others e place h =
        let n : 0 + place ≡ place = omega arith in
        same_in operations 0 place e (ap (among names) n ∙ (not_among (Unit {0}) names place h).0)
