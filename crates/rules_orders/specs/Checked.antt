-- The checker's answer read back: what its yes says, that the planner's order is answered yes, and that where the planner answers none
-- every order is answered no.
use Rattle.std.specs.Prelude.{ℕ, refl, true, List, [], ◌∷◌, Option, Some, None}
use Rattle.std.proofs.Common.{arith, ◌∙◌}
use Rattle.std.proofs.Math.Path.{◌≡◌}
use Rattle.rules.specs.Basics.{yes_no}
use Rattle.rules.specs.Holds.{Registry}
use Rattle.rules.specs.Refusals.{Refusal}
use Rattle.rules.specs.Outcomes.{Accepted, Outcome, writes, answers, refuses, answer_of, Check, checked}
use Rattle.rules.specs.Orders.{set_checks, passes, plan, planned, check_order, plan_order}
use Rattle.rules_laws.specs.Laws.Tests.{by_test, Passed, checked_elim}
use Rattle.rules_orders.specs.Sets.{passed_split}
use Rattle.rules_orders.specs.Planned.{plan_passes, plan_none}

-- where every test fails, the outcome is what is behind them
passed_checked : (cs : List Check) (u : Outcome) → Passed cs → checked cs u ≡ u
unfolding checked
passed_checked [] u h = refl
passed_checked (c ∷ cs) u h = rw h.0 (passed_checked cs u h.1)

module _ (r : Registry) (set : List ℕ) where
  -- the answer where the set's checks pass
  told : (order : List ℕ) → Passed (set_checks r set) → answer_of (check_order r set order) ≡ Accepted (yes_no (passes r set order) ∷ [])
  unfolding check_order
  told order c = rw (passed_checked (set_checks r set) (answers (yes_no (passes r set order) ∷ [])) c)

  -- Yes: the set passes its checks, and the order passes.
  pub yes_passes : (order : List ℕ) → answer_of (check_order r set order) ≡ Accepted (1 ∷ []) → Passed (set_checks r set) × (passes r set order ≡ true)
  unfolding check_order
  yes_passes order = checked_elim (λ u. answer_of u ≡ Accepted (1 ∷ []) → Passed (set_checks r set) × (passes r set order ≡ true)) (set_checks r set) _
      (λ n e. let z : ◌≡◌ {A = ℕ} 0 1 = cc in absurd (omega arith))
      (λ c e. (
        c,
        by_test (passes r set order) (λ t. t)
            (λ f. let i : Accepted (0 ∷ []) ≡ Accepted (1 ∷ []) = rw f at e in let z : ◌≡◌ {A = ℕ} 0 1 = cc in absurd (omega arith)),
      ))

  -- What is planned for a set that passes its checks is answered yes.
  pub planned_yes : (order : List ℕ) → plan r set ≡ Some order → Passed (set_checks r set) → answer_of (check_order r set order) ≡ Accepted (1 ∷ [])
  planned_yes order p c = told order c ∙ rw (plan_passes r set order p)

  -- an outcome of the planner that is no refusal
  module _ (buffer : List ℕ) (u : Outcome) (h : (x : Refusal) → refuses x [] ≡ u → ⊥) where
    unrefused : plan_order r set buffer ≡ u → Passed (set_checks r set) × (planned (plan r set) ≡ u)
    unfolding plan_order
    unrefused = checked_elim (λ w. w ≡ u → Passed (set_checks r set) × (planned (plan r set) ≡ u)) _ _
        (λ x e. absurd (h x e)) (λ c e. ((passed_split (set_checks r set) _ c).0, e))

  -- The same of what the planner writes.
  pub written_yes : (buffer : List ℕ) (place : ℕ) (order vs : List ℕ) → plan_order r set buffer ≡ writes place order vs
      → answer_of (check_order r set order) ≡ Accepted (1 ∷ [])
  written_yes buffer place order vs e =
      let w = unrefused buffer (writes place order vs) (λ x i. let z : ◌≡◌ {A = ℕ} 0 1 = cc in omega arith) e in
      go (plan r set) refl w.0 w.1
    where
      go : (u : Option (List ℕ)) → plan r set ≡ u → Passed (set_checks r set) → planned u ≡ writes place order vs
          → answer_of (check_order r set order) ≡ Accepted (1 ∷ [])
      go None p c i = let z : ◌≡◌ {A = ℕ} 0 1 = cc in absurd (omega arith)
      go (Some l) p c i = let j : l ≡ order = cc in planned_yes order (rw j at p) c

  -- Where it answers none, every order is answered no.
  pub planned_none : (buffer : List ℕ) → plan_order r set buffer ≡ answers [] → (order : List ℕ) → answer_of (check_order r set order) ≡ Accepted (0 ∷ [])
  planned_none buffer e order =
      let w = unrefused buffer (answers []) (λ x i. let z : ◌≡◌ {A = ℕ} 0 1 = cc in omega arith) e in
      go (plan r set) refl w.0 w.1
    where
      go : (u : Option (List ℕ)) → plan r set ≡ u → Passed (set_checks r set) → planned u ≡ answers []
          → answer_of (check_order r set order) ≡ Accepted (0 ∷ [])
      go None p c i = told order c ∙ rw ((plan_none r set).0 p order)
      go (Some l) p c i = let z : ◌≡◌ {A = ℕ} 0 1 = cc in absurd (omega arith)
