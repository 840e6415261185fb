-- An order that passes, id by id: each is the set's, is not named yet, and is supplied by those before it.
use Rattle.std.specs.Prelude.{ℕ, ◌≡◌, refl, Bool, false, ◌&&◌, ◌||◌, ◌⊎◌, eqb, length, Option, Some, None}
use Rattle.std.proofs.Common.{arith, sym, ap, ◌∙◌, true≢false, ⊎_elim}
use Rattle.std.proofs.Math.Bool.{true, not}
use mathlib.Core.List.{List, [], ◌∷◌, ◌++◌, append-nil, append_assoc}
use borrow.Author.Tests.{eqb-true, eq-eqb, ne_eqb, not-true}
use Rattle.rules.specs.Basics.{all, holds, twice}
use Rattle.rules_types.specs.declared.Port.{Port}
use Rattle.rules.specs.Holds.{Plugin, Registry, lookup, provider, is_active}
use Rattle.rules.specs.Orders.{named, in_time, supplied, each_supplied, each_once, can_come, passes}
use Rattle.rules_laws.specs.Laws.Tests.{by_test, both, neither}
use Rattle.rules_orders.specs.Ids.{Within, named_head, named_cases, named_left, named_right, named_either, all_within, no_more}

module _ (r : Registry) where
  -- What is supplied by some ids is supplied by more.
  in_time_grows : (b c : List ℕ) → Within b c → (q : Port) → in_time r b q ≡ true → in_time r c q ≡ true
  in_time_grows b c w q h = go (provider r q) h
    where
      go : (u : Option Plugin) → holds (λ (p : Plugin). is_active p.phase || named p.id b) u ≡ true
          → holds (λ (p : Plugin). is_active p.phase || named p.id c) u ≡ true
      go None t = t
      go (Some p) t = by_test (is_active p.phase) (λ y. rw y) (λ n. rw n (w p.id (rw n at t)))

  all_grow : (b c : List ℕ) → Within b c → (qs : List Port) → all (in_time r b) qs ≡ true → all (in_time r c) qs ≡ true
  all_grow b c w [] h = refl
  all_grow b c w (q ∷ qs) h =
      let e = both (in_time r b q) (all (in_time r b) qs) h in
      rw (in_time_grows b c w q e.0, all_grow b c w qs e.1)

  pub supplied_grows : (b c : List ℕ) → Within b c → (x : ℕ) → supplied r b x ≡ true → supplied r c x ≡ true
  unfolding supplied
  supplied_grows b c w x h = go (lookup r x) h
    where
      go : (u : Option Plugin) → holds (λ (p : Plugin). all (in_time r b) p.dependencies) u ≡ true
          → holds (λ (p : Plugin). all (in_time r c) p.dependencies) u ≡ true
      go None t = t
      go (Some p) t = all_grow b c w p.dependencies t

  module _ (set : List ℕ) where
    -- each of the ids is the set's, and can come after those before it
    abbrev pub follow : (before order : List ℕ) → Bool
    follow before [] = true
    follow before (x ∷ rest) = named x set && (can_come r before x && follow (before ++ x ∷ []) rest)

    -- what a first id that follows says, and the rest
    pub record Next (before : List ℕ) (x : ℕ) (rest : List ℕ) : Type 0 where
      pub member : named x set ≡ true
      pub new : named x before ≡ false
      pub allowed : supplied r before x ≡ true
      pub fit : can_come r before x ≡ true
      pub further : follow (before ++ x ∷ []) rest ≡ true

    pub follow_next : (before : List ℕ) (x : ℕ) (rest : List ℕ) → follow before (x ∷ rest) ≡ true → Next before x rest
    follow_next before x rest h =
        let a = both (named x set) (can_come r before x && follow (before ++ x ∷ []) rest) h in
        let b = both (can_come r before x) (follow (before ++ x ∷ []) rest) a.1 in
        let c = both (not (named x before)) (supplied r before x) b.0 in
        record { member = a.0; new = not-true _ c.0; allowed = c.1; fit = b.0; further = b.1 }

    -- What stands before stands no more behind, and nothing stands twice.
    follow_new : (before rest : List ℕ) (y : ℕ) → follow before rest ≡ true → named y before ≡ true → named y rest ≡ false
    follow_new before [] y h m = refl
    follow_new before (x ∷ rest) y h m =
        let n = follow_next before x rest h in
        rw (ne_eqb y x (λ e. true≢false (sym m ∙ ap (λ z. named z before) e ∙ n.new)))
        (follow_new (before ++ x ∷ []) rest y n.further (named_left y before (x ∷ []) m))

    pub follow_once : (before rest : List ℕ) → follow before rest ≡ true → twice rest ≡ false
    follow_once before [] h = refl
    follow_once before (x ∷ rest) h =
        let n = follow_next before x rest h in
        rw (follow_new (before ++ x ∷ []) rest x n.further (named_right x before (x ∷ []) (named_head x [])))
        (follow_once (before ++ x ∷ []) rest n.further)

    follow_members : (before rest : List ℕ) → follow before rest ≡ true → all (λ x. named x set) rest ≡ true
    follow_members before [] h = refl
    follow_members before (x ∷ rest) h =
        let n = follow_next before x rest h in
        rw n.member (follow_members (before ++ x ∷ []) rest n.further)

    follow_supplied : (before rest : List ℕ) → follow before rest ≡ true → each_supplied r before rest ≡ true
    follow_supplied before [] h = refl
    follow_supplied before (x ∷ rest) h =
        let n = follow_next before x rest h in
        rw n.allowed (follow_supplied (before ++ x ∷ []) rest n.further)

    -- and the other way round
    supplied_follow : (before rest : List ℕ) → ((y : ℕ) → named y before ≡ true → named y rest ≡ false) → all (λ x. named x set) rest ≡ true
        → twice rest ≡ false → each_supplied r before rest ≡ true → follow before rest ≡ true
    supplied_follow before [] n m o s = refl
    supplied_follow before (x ∷ rest) n m o s =
        let a = both (named x set) (all (λ y. named y set) rest) m in
        let b = neither (named x rest) (twice rest) o in
        let c = both (supplied r before x) (each_supplied r (before ++ x ∷ []) rest) s in
        let new : named x before ≡ false = by_test (named x before) (λ t. absurd (true≢false (sym (named_head x rest) ∙ n x t))) (λ f. f) in
        rw (a.0, new, c.0) (supplied_follow (before ++ x ∷ []) rest (apart b.0) a.1 b.1 c.1)
      where
        apart : named x rest ≡ false → (y : ℕ) → named y (before ++ x ∷ []) ≡ true → named y rest ≡ false
        apart f y t = ⊎_elim
            (λ g. (neither (eqb y x) (named y rest) (n y g)).1)
            (λ g. ⊎_elim (λ e. rw e f) (λ z. absurd (true≢false (sym z))) (named_cases y x [] g))
            (named_either y before (x ∷ []) t)

    -- An order passes exactly if it has as many ids as the set and each follows.
    pub record Following (order : List ℕ) : Type 0 where
      pub whole : length order ≡ length set
      pub follows : follow [] order ≡ true

    pub passes_follow : (order : List ℕ) → passes r set order ≡ true → Following order
    unfolding passes
    passes_follow order h =
        let a = both (each_once set order) (each_supplied r [] order) h in
        let b = both (eqb (length order) (length set)) (all (λ x. named x set) order && not (twice order)) a.0 in
        let c = both (all (λ x. named x set) order) (not (twice order)) b.1 in
        record {
          whole = eqb-true _ _ b.0;
          follows = supplied_follow [] order (λ y m. absurd (true≢false (sym m))) c.0 (not-true _ c.1) a.1;
        }

    pub follow_passes : (order : List ℕ) → Following order → passes r set order ≡ true
    unfolding passes
    follow_passes order f =
        let h = f.follows in
        rw (eq-eqb _ _ f.whole, follow_members [] order h, follow_once [] order h, follow_supplied [] order h)

    -- the same as two equations
    pub passes_other : (order : List ℕ) → (length order ≡ length set → ⊥) → passes r set order ≡ false
    passes_other order n = by_test (passes r set order) (λ t. absurd (n (passes_follow order t).whole)) (λ f. f)

    pub passes_same : (order : List ℕ) → length order ≡ length set → passes r set order ≡ follow [] order
    passes_same order e = by_test (follow [] order)
        (λ t. follow_passes order (record { whole = e; follows = t }) ∙ sym t)
        (λ f. by_test (passes r set order) (λ t. absurd (true≢false (sym (passes_follow order t).follows ∙ f))) (λ g. g ∙ sym f))

    -- What passing means, in [6]'s words: none stands twice, the ids are the set's, and each is supplied by those before it.
    pub record Ordered (order : List ℕ) : Type 0 where
      pub once : twice order ≡ false
      pub only : Within order set
      pub every : Within set order
      pub supply : (before : List ℕ) (x : ℕ) (rest : List ℕ) → order ≡ before ++ x ∷ rest → supplied r before x ≡ true

    follow_may : (before rest : List ℕ) → follow before rest ≡ true → (front : List ℕ) (x : ℕ) (back : List ℕ) → rest ≡ front ++ x ∷ back
        → supplied r (before ++ front) x ≡ true
    follow_may before [] h [] x back e = let z : ◌≡◌ {A = ℕ} 0 1 = cc in absurd (omega arith)
    follow_may before [] h (f ∷ front) x back e = let z : ◌≡◌ {A = ℕ} 0 1 = cc in absurd (omega arith)
    follow_may before (y ∷ rest) h [] x back e =
        let i : y ≡ x = cc in
        rw append-nil (rw i at (follow_next before y rest h).allowed)
    follow_may before (y ∷ rest) h (f ∷ front) x back e =
        let i : y ≡ f = cc in
        let j : rest ≡ front ++ x ∷ back = cc in
        rw (append_assoc, i) at (follow_may (before ++ y ∷ []) rest (follow_next before y rest h).further front x back j)

    pub passes_says : (order : List ℕ) → passes r set order ≡ true → Ordered order
    passes_says order h =
        let f = passes_follow order h in
        let o = follow_once [] order f.follows in
        let w = all_within order set (follow_members [] order f.follows) in
        record {
          once = o;
          only = w;
          every = λ y m. by_test (named y order) (λ t. t)
              (λ g. let n = no_more (y ∷ order) set (rw g o) (λ z a. ⊎_elim (λ e. rw e m) (w z) (named_cases z y order a)) in
              let s = f.whole in
              absurd (omega arith));
          supply = follow_may [] order f.follows;
        }
