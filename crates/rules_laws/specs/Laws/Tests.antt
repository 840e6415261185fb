-- Checks: what passed ones say, and what comes of a list of them.
use Rattle.std.specs.Prelude.{◌≡◌, refl, Bool, true, false, List, [], ◌∷◌, Option, Some, None}
pub use Rattle.rules_basics.specs.Tests.{by_test, both, neither}
use Rattle.rules.specs.Basics.{pick}
use Rattle.rules.specs.Holds.{Plugin}
use Rattle.rules.specs.Refusals.{Refusal, Unknown}
use Rattle.rules.specs.Outcomes.{Outcome, refuses, Check, checked, found}

-- all tests of a list of checks fail
abbrev pub Passed : List Check → Type 0
Passed [] = Unit {0}
Passed (c ∷ cs) = (c.test ≡ false) × Passed cs

pub checked_elim : (P : Outcome → Type 0) (cs : List Check) (o : Outcome) → ((x : Refusal) → P (refuses x [])) → (Passed cs → P o) → P (checked cs o)
unfolding checked
checked_elim P [] o f g = g tt
checked_elim P (c ∷ cs) o f g = go c.test refl (λ h. checked_elim P cs o f h)
  where
    go : (b : Bool) → c.test ≡ b → ((Passed cs → P o) → P (checked cs o)) → P (pick b (refuses c.refusal []) (checked cs o))
    go true e k = f c.refusal
    go false e k = k (λ h. g (e, h))

pub found_elim : (P : Outcome → Type 0) (q : Option Plugin) (f : Plugin → Outcome) → P (refuses Unknown []) → ((p : Plugin) → q ≡ Some p → P (f p))
    → P (found q f)
unfolding found
found_elim P None f a b = a
found_elim P (Some p) f a b = b p refl
