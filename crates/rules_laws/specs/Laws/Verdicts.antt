-- What a run of checks comes to.
use Rattle.std.specs.Prelude.{◌≡◌, refl, List, [], ◌∷◌, ◌++◌, Result, Ok, Err}
use Rattle.std.proofs.Common.{arith, ap}
use Rattle.rules.specs.Refusals.{Refusal, number}
use Rattle.rules.specs.Outcomes.{Outcome, answer_of, refuses, Check, checked}
use Rattle.rules.specs.Outcomes as outcomes
use Rattle.rules.specs.Answers.{verdict}
use Rattle.rules_laws.specs.Laws.Tests.{by_test, Passed}

-- a run that refuses does not pass
clash : {A : Type 0} (x : Refusal) → ◌≡◌ {A = Result Unit Refusal} (Err x) (Ok tt) → A
clash x e = cc

-- two runs of checks, one after the other
pub verdict_first : (cs ds : List Check) (x : Refusal) → verdict cs ≡ Err x → verdict (cs ++ ds) ≡ Err x
unfolding verdict
verdict_first [] ds x e = cc
verdict_first (c ∷ cs) ds x e =
    let ih = verdict_first cs ds x in
    by_test c.test (λ t. rw t (rw t at e)) (λ f. rw f (ih (rw f at e)))

pub verdict_then : (cs ds : List Check) → verdict cs ≡ Ok tt → verdict (cs ++ ds) ≡ verdict ds
unfolding verdict
verdict_then [] ds e = refl
verdict_then (c ∷ cs) ds e =
    let ih = verdict_then cs ds in
    by_test c.test (λ t. clash _ (rw t at e)) (λ f. rw f (ih (rw f at e)))

-- every test of a run that passes fails
pub passes : (cs : List Check) → verdict cs ≡ Ok tt → Passed cs
unfolding verdict
passes [] e = tt
passes (c ∷ cs) e =
    let ih = passes cs in
    by_test c.test (λ t. clash _ (rw t at e)) (λ f. (f, ih (rw f at e)))

pub checked_pass : (cs : List Check) (o : Outcome) → verdict cs ≡ Ok tt → checked cs o ≡ o
unfolding verdict checked
checked_pass [] o e = refl
checked_pass (c ∷ cs) o e =
    let ih = checked_pass cs o in
    by_test c.test (λ t. clash _ (rw t at e)) (λ f. rw f (ih (rw f at e)))

pub checked_refuses : (cs : List Check) (o : Outcome) (x : Refusal) → verdict cs ≡ Err x → checked cs o ≡ refuses x []
unfolding verdict checked
checked_refuses [] o x e = cc
checked_refuses (c ∷ cs) o x e =
    let ih = checked_refuses cs o x in
    by_test c.test (λ t. let g = rw t at e in
    let j : c.refusal ≡ x = cc in
    rw t (ap (λ y. refuses y []) j)) (λ f. rw f (ih (rw f at e)))

pub refused_answer : (o : Outcome) (x : Refusal) → o ≡ refuses x [] → answer_of o ≡ outcomes.Refused (number x) []
refused_answer o x w = rw w refl
