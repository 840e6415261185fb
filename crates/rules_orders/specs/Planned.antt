-- [6]'s theorems, on any registry and any list as the set: what the planner answers passes; every other order that passes has a higher
-- id at the first place where they differ; and it answers none exactly if none passes.
use Prim.Native.Nat.{ℕ, zero, suc, ◌+◌, ◌<◌}
use native.Mathlib.Omega.{arith}
use Rattle.std.proofs.Math.Path.{◌≡◌, refl, sym}
use Rattle.std.proofs.Common.{ap, ◌∙◌, true≢false, inr, ⊎_elim, eqb-true, eq-eqb, ne_eqb, lt-ltb, le-ltb, ltb-true}
use Rattle.std.proofs.Math.Bool.{true}
use Rattle.std.specs.Prelude.{false, ◌⊎◌, ◌↔◌, eqb, Option, Some, None}
use mathlib.Core.List.{List, [], ◌∷◌, ◌++◌, append-nil, append_assoc}
use Rattle.std.proofs.Math.Logic.{inl}
use Rattle.std.proofs.Math.ListN.{length, length-append}
use Rattle.std.proofs.lemmas.Bool.{eqb-false}
use Rattle.rules.specs.Basics.{all}
use Rattle.rules.specs.Holds.{Registry}
use Rattle.rules.specs.Orders.{named, passes, lowest, can_come, and_then, plan_behind, plan, lower_first}
use Rattle.rules_laws.specs.Laws.Tests.{by_test}
use Rattle.rules_orders.specs.Ids.{Within, within_more, all_within, no_more, Lowest, lowest_is}
use Rattle.rules_orders.specs.Follows.{supplied_grows, follow, follow_next, follow_once, passes_follow, follow_passes}

-- Of two orders at most one has the lower id at the first place where they differ.
pub lower_once : (k l : List ℕ) → lower_first k l ≡ true → lower_first l k ≡ false
lower_once [] l h = absurd (true≢false (sym h))
lower_once (x ∷ k) [] h = refl
lower_once (x ∷ k) (y ∷ l) h =
    let r = lower_once k l in
    by_test (eqb x y)
    (λ t. rw (eq-eqb y x (sym (eqb-true x y t))) (r (rw t at h)))
    (λ f. let b = ltb-true x y (rw f at h) in rw (ne_eqb y x (λ e. eqb-false x y f (sym e)), le-ltb y x (omega arith)))

module _ (r : Registry) (set : List ℕ) where
  -- What the planner answers goes on from what it was given by ids that follow, and any others that do have a higher id at the first
  -- place where they differ.
  pub record Filled (n : ℕ) (before order : List ℕ) : Type 0 where
    pub rest : List ℕ
    pub whole : order ≡ before ++ rest
    pub size : length rest ≡ n
    pub follows : follow r set before rest ≡ true
    pub first : (other : List ℕ) → length other ≡ n → follow r set before other ≡ true → (other ≡ rest) ⊎ (lower_first rest other ≡ true)

  -- one place more: the lowest that can come, and then what was filled behind it
  module _ (n : ℕ) (before : List ℕ) (x : ℕ) (l : Lowest (can_come r before) set (Some x)) where
    lower_at_lem : (rest other : List ℕ)
        → ((o : List ℕ) → length o ≡ n → follow r set (before ++ x ∷ []) o ≡ true → (o ≡ rest) ⊎ (lower_first rest o ≡ true))
        → length other ≡ suc n → follow r set before other ≡ true → (other ≡ x ∷ rest) ⊎ (lower_first (x ∷ rest) other ≡ true)
    lower_at_lem rest [] f s h = absurd (omega arith)
    lower_at_lem rest (y ∷ other) f s h =
        let m = follow_next r set before y other h in
        by_test (eqb x y)
        (λ t. let e = eqb-true x y t in
        ⊎_elim (λ i. inl (ap (λ z. z ∷ other) (sym e) ∙ ap (λ o. x ∷ o) i)) (λ i. inr (rw t i)) (f other (omega arith) (rw (← e) at m.further)))
        (λ u. inr (rw u (lt-ltb x y (omega (arith, l.2 y m.member m.fit, eqb-false x y u)))))

    one_more_lem : (order : List ℕ) → Filled n (before ++ x ∷ []) order → Filled (suc n) before order
    one_more_lem order f = record {
      rest = x ∷ f.rest;
      whole = f.whole ∙ append_assoc before (x ∷ []) f.rest;
      size = ap suc f.size;
      follows = rw (l.0, l.1, f.follows);
      first = λ other. lower_at_lem f.rest other f.first;
    }

  plan_filled : (n : ℕ) (before order : List ℕ) → plan_behind r set n before ≡ Some order → Filled n before order
  unfolding plan_behind
  plan_filled zero before order e =
      let s : before ≡ order = cc in
      record { rest = []; whole = sym s ∙ sym (append-nil before); size = refl; follows = refl; first = alone }
    where
      alone : (other : List ℕ) → length other ≡ 0 → follow r set before other ≡ true → (other ≡ []) ⊎ (lower_first [] other ≡ true)
      alone [] l h = inl refl
      alone (y ∷ other) l h = absurd (omega arith)
  plan_filled (suc n) before order e = go (lowest (can_come r before) set) (lowest_is (can_come r before) set) e (λ x. plan_filled n (before ++ x ∷ []) order)
    where
      go : (u : Option ℕ) → Lowest (can_come r before) set u → and_then u (λ x. plan_behind r set n (before ++ x ∷ [])) ≡ Some order
          → ((x : ℕ) → plan_behind r set n (before ++ x ∷ []) ≡ Some order → Filled n (before ++ x ∷ []) order) → Filled (suc n) before order
      go None l e ih = let z : ◌≡◌ {A = ℕ} 0 1 = cc in absurd (omega arith)
      go (Some x) l e ih = one_more_lem n before x l order (ih x e)

  -- Where an order follows and fewer ids are named than it has, one of its ids can come: the first that is not named.
  unnamed_follows : (named-ones before rest : List ℕ) → follow r set before rest ≡ true → Within before named-ones
      → all (λ y. named y named-ones) rest ≡ false → Lowest (can_come r named-ones) set None → ⊥
  unnamed_follows k before [] h w a l = true≢false a
  unnamed_follows k before (y ∷ rest) h w a l =
      let m = follow_next r set before y rest h in
      by_test (named y k)
      (λ t. unnamed_follows k (before ++ y ∷ []) rest m.further (within_more before k y w t) (rw t at a) l)
      (λ f. true≢false (sym (rw (f, supplied_grows r before k w y m.allowed)) ∙ l y m.member))

  one_follows : (order k : List ℕ) → follow r set [] order ≡ true → length k < length order → Lowest (can_come r k) set None → ⊥
  one_follows order k h less l = by_test (all (λ y. named y k) order)
      (λ t. let m = no_more order k (follow_once r set [] order h) (all_within order k t) in absurd (omega arith))
      (λ f. unnamed_follows k [] order h (λ y m. absurd (true≢false (sym m))) f l)

  -- So the planner, which names one at each place, comes to the end.
  plan_ends : (order : List ℕ) → follow r set [] order ≡ true
      → (n : ℕ) (before : List ℕ) → length before + n ≡ length order → plan_behind r set n before ≡ None → ⊥
  unfolding plan_behind
  plan_ends order h zero before s e = let z : ◌≡◌ {A = ℕ} 0 1 = cc in omega arith
  plan_ends order h (suc n) before s e =
      go (lowest (can_come r before) set) (lowest_is (can_come r before) set) e
      (λ x. plan_ends order h n (before ++ x ∷ []) (omega (arith, length-append before (x ∷ []))))
    where
      go : (u : Option ℕ) → Lowest (can_come r before) set u → and_then u (λ x. plan_behind r set n (before ++ x ∷ [])) ≡ None
          → ((x : ℕ) → plan_behind r set n (before ++ x ∷ []) ≡ None → ⊥) → ⊥
      go None l e ih = one_follows order before h (omega arith) l
      go (Some x) l e ih = ih x e

  -- What the planner answers passes.
  pub plan_passes : (order : List ℕ) → plan r set ≡ Some order → passes r set order ≡ true
  plan_passes order e =
      let f = plan_filled (length set) [] order e in
      follow_passes r set order (rw f.whole (record { whole = f.size; follows = f.follows }))

  -- Every other order that passes has a higher id at the first place where they differ.
  pub plan_lowest : (order other : List ℕ) → plan r set ≡ Some order → passes r set other ≡ true → (other ≡ order) ⊎ (lower_first order other ≡ true)
  plan_lowest order other e h =
      let f = plan_filled (length set) [] order e in
      let g = passes_follow r set other h in
      rw f.whole (f.first other g.whole g.follows)

  -- It answers none exactly if no order passes.
  pub plan_none : (plan r set ≡ None) ↔ ((order : List ℕ) → passes r set order ≡ false)
  plan_none = (
    λ e order. by_test (passes r set order)
        (λ t. let g = passes_follow r set order t in let s = g.whole in absurd (plan_ends order g.follows (length set) [] (omega arith) e))
        (λ f. f),
    λ f. go f (plan r set) refl,
  )
    where
      go : ((order : List ℕ) → passes r set order ≡ false) → (u : Option (List ℕ)) → plan r set ≡ u → u ≡ None
      go f None e = refl
      go f (Some order) e = absurd (true≢false (sym (plan_passes order e) ∙ f order))

  -- [6]'s words on the planner's answer, and that no other answer has them.
  abbrev pub IsPlan : Option (List ℕ) → Type 0
  IsPlan None = (order : List ℕ) → passes r set order ≡ false
  IsPlan (Some order) = (passes r set order ≡ true) × ((other : List ℕ) → passes r set other ≡ true → (other ≡ order) ⊎ (lower_first order other ≡ true))

  pub plan_is : IsPlan (plan r set)
  plan_is = go (plan r set) refl
    where
      go : (u : Option (List ℕ)) → plan r set ≡ u → IsPlan u
      go None e = plan_none.0 e
      go (Some order) e = (plan_passes order e, λ other. plan_lowest order other e)

  pub plan_only : (u : Option (List ℕ)) → IsPlan u → u ≡ plan r set
  plan_only u h = go u h (plan r set) plan_is
    where
      go : (u : Option (List ℕ)) → IsPlan u → (v : Option (List ℕ)) → IsPlan v → u ≡ v
      go None h None k = refl
      go None h (Some l) k = absurd (true≢false (sym k.0 ∙ h l))
      go (Some l) h None k = absurd (true≢false (sym h.0 ∙ k l))
      go (Some a) h (Some b) k = ⊎_elim (λ e. ap Some (sym e))
          (λ f. ⊎_elim (λ e. ap Some e) (λ g. absurd (true≢false (sym g ∙ lower_once a b f))) (k.1 a h.0))
          (h.1 b k.0)
