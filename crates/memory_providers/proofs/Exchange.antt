-- Whether one passes, of a list and of two lists against each other.
use mathlib.Core.Path.{◌≡◌, refl, ap, ◌∙◌}
use mathlib.Core.Bool.{Bool, true, false, ◌||◌}
use mathlib.Core.List.{List, [], ◌∷◌}
use Rattle.rules.specs.Basics.{any, first, is_some}
use Rattle.rules_laws.specs.Laws.Tests.{by_test}

pub is_first : {A : Type 0} (f : A → Bool) (ps : List A) → is_some (first f ps) ≡ any f ps
is_first f [] = refl
is_first f (p ∷ ps) = let r = is_first f ps in by_test (f p) (λ t. rw t) (λ n. rw n r)

any_none : {A : Type 0} (qs : List A) → any (λ (q : A). false) qs ≡ false
any_none [] = refl
any_none (q ∷ qs) = any_none qs

or_apart : (a b c d : Bool) → ((a || b) || (c || d)) ≡ ((a || c) || (b || d))
or_apart true b c d = refl
or_apart false true true d = refl
or_apart false true false d = refl
or_apart false false c d = refl

any_or : {A : Type 0} (f g : A → Bool) (qs : List A) → any (λ q. f q || g q) qs ≡ (any f qs || any g qs)
any_or f g [] = refl
any_or f g (q ∷ qs) = ap (λ b. (f q || g q) || b) (any_or f g qs) ∙ or_apart (f q) (g q) (any f qs) (any g qs)

pub exchange : {A B : Type 0} (r : A → B → Bool) (ps : List A) (qs : List B) → any (λ q. any (λ p. r p q) ps) qs ≡ any (λ p. any (λ q. r p q) qs) ps
exchange r [] qs = any_none qs
exchange r (p ∷ ps) qs = any_or (r p) (λ q. any (λ x. r x q) ps) qs ∙ ap (λ b. any (r p) qs || b) (exchange r ps qs)
