-- Lists of ids: which are in them, how many can be different, and the lowest that passes a test.
use Rattle.std.specs.Prelude.{ℕ, suc, ◌≤◌, ◌<◌, ◌≡◌, refl, Bool, true, false, List, [], ◌∷◌, ◌++◌, ◌⊎◌, eqb, ltb, length, Option, Some, None}
use Rattle.std.proofs.Common.{arith, sym, ap, ◌∙◌, true≢false, inl, inr, ⊎_elim, eqb-true, eq-eqb, ne_eqb, ltb-true, ltb-false, subst}
use Rattle.std.proofs.Math.Bool.{or-true}
use Rattle.rules.specs.Basics.{pick, all, twice}
use Rattle.rules.specs.Queries.{lower}
use Rattle.rules_laws.specs.Laws.Tests.{by_test, both, neither}
use Rattle.rules_laws.specs.Laws.Members.{any_append}
use Rattle.rules.specs.Orders.{named, lowest}

-- each id of the first list is in the second
abbrev pub Within : List ℕ → List ℕ → Type 0
Within l k = (y : ℕ) → named y l ≡ true → named y k ≡ true

-- where an id is
pub named_head : (x : ℕ) (l : List ℕ) → named x (x ∷ l) ≡ true
named_head x l = rw (eq-eqb x x refl)

pub named_tail : (y x : ℕ) (l : List ℕ) → named y l ≡ true → named y (x ∷ l) ≡ true
named_tail y x l h = by_test (eqb y x) (λ t. rw t) (λ f. rw f h)

-- it is the first, or in the rest
pub named_cases : (y x : ℕ) (l : List ℕ) → named y (x ∷ l) ≡ true → (y ≡ x) ⊎ (named y l ≡ true)
named_cases y x l h = by_test (eqb y x) (λ t. inl (eqb-true y x t)) (λ f. inr (rw f at h))

pub named_left : (y : ℕ) (l k : List ℕ) → named y l ≡ true → named y (l ++ k) ≡ true
named_left y l k h = rw (any_append (eqb y) l k, h)

pub named_right : (y : ℕ) (l k : List ℕ) → named y k ≡ true → named y (l ++ k) ≡ true
named_right y l k h = rw (any_append (eqb y) l k, h, or-true)

pub named_either : (y : ℕ) (l k : List ℕ) → named y (l ++ k) ≡ true → (named y l ≡ true) ⊎ (named y k ≡ true)
named_either y l k h = by_test (named y l) inl (λ f. inr (rw (any_append (eqb y) l k, f) at h))

pub within_more : (l k : List ℕ) (x : ℕ) → Within l k → named x k ≡ true → Within (l ++ x ∷ []) k
within_more l k x w h y m = go (named_either y l (x ∷ []) m)
  where
    go : (named y l ≡ true) ⊎ (named y (x ∷ []) ≡ true) → named y k ≡ true
    go (inl a) = w y a
    go (inr a) = ⊎_elim (λ e. rw e h) (λ z. absurd (true≢false (sym z))) (named_cases y x [] a)

pub all_within : (l k : List ℕ) → all (λ y. named y k) l ≡ true → Within l k
all_within [] k h y m = absurd (true≢false (sym m))
all_within (x ∷ l) k h y m =
    let b = both (named x k) (all (λ z. named z k) l) h in
    let r = all_within l k b.1 y in
    ⊎_elim (λ e. rw e b.0) r (named_cases y x l m)

-- of different ids, one is not named before it
pub once_before : (l : List ℕ) (x : ℕ) (k : List ℕ) → twice (l ++ x ∷ k) ≡ false → named x l ≡ false
once_before [] x k h = refl
once_before (y ∷ l) x k h =
    let b = neither (named y (l ++ x ∷ k)) (twice (l ++ x ∷ k)) h in
    rw (ne_eqb x y (λ e. true≢false (sym (named_right y l (x ∷ k) (rw (eq-eqb y x (sym e)))) ∙ b.0)), once_before l x k b.1)

-- the id without its first place
without : ℕ → List ℕ → List ℕ
without x [] = []
without x (y ∷ l) = pick (eqb x y) l (y ∷ without x l)

without_length : (x : ℕ) (l : List ℕ) → named x l ≡ true → suc (length (without x l)) ≡ length l
unfolding without
without_length x [] h = absurd (true≢false (sym h))
without_length x (y ∷ l) h =
    let r = without_length x l in
    by_test (eqb x y) (λ t. rw t) (λ f. rw f (ap suc (r (rw f at h))))

without_named : (x y : ℕ) (l : List ℕ) → eqb y x ≡ false → named y l ≡ true → named y (without x l) ≡ true
unfolding without
without_named x y [] n h = h
without_named x y (z ∷ l) n h =
    let r = without_named x y l n in
    by_test (eqb x z)
    (λ t. let e = eqb-true x z t in let m : eqb y z ≡ false = rw (← e) n in rw t (rw m at h))
    (λ f. rw f (by_test (eqb y z) (λ t. rw t) (λ g. rw g (r (rw g at h)))))

-- Different ids that are all in a list are no more than it has.
pub no_more : (l k : List ℕ) → twice l ≡ false → Within l k → length l ≤ length k
no_more [] k o w = omega arith
no_more (x ∷ l) k o w =
    let b = neither (named x l) (twice l) o in
    let r = no_more l (without x k) b.1 (λ y h. without_named x y k (ne_eqb y x (apart b.0 y h)) (w y (named_tail y x l h))) in
    omega (arith, without_length x k (w x (named_head x l)))
  where
    apart : named x l ≡ false → (y : ℕ) → named y l ≡ true → y ≡ x → ⊥
    apart f y h e = true≢false (sym h ∙ ap (λ z. named z l) e ∙ f)

-- What the lowest is: it is there and passes, and none below it does; where there is none, none passes.
abbrev pub Lowest : (ℕ → Bool) → List ℕ → Option ℕ → Type 0
Lowest f l None = (y : ℕ) → named y l ≡ true → f y ≡ false
Lowest f l (Some x) = (named x l ≡ true) × (f x ≡ true) × ((y : ℕ) → named y l ≡ true → f y ≡ true → x ≤ y)

module _ (f : ℕ → Bool) (x : ℕ) (l : List ℕ) where
  passed_over : (u : Option ℕ) → f x ≡ false → Lowest f l u → Lowest f (x ∷ l) u
  passed_over None n w = λ y h. go y (named_cases y x l h)
    where
      go : (y : ℕ) → (y ≡ x) ⊎ (named y l ≡ true) → f y ≡ false
      go y (inl e) = rw e n
      go y (inr h) = w y h
  passed_over (Some z) n w = (named_tail z x l w.0, w.1, λ y h t. go y t (named_cases y x l h))
    where
      go : (y : ℕ) → f y ≡ true → (y ≡ x) ⊎ (named y l ≡ true) → z ≤ y
      go y t (inl e) = absurd (true≢false (sym t ∙ ap f e ∙ n))
      go y t (inr h) = w.2 y h t

  taken : (u : Option ℕ) → f x ≡ true → Lowest f l u → Lowest f (x ∷ l) (lower x u)
  taken None t w = (named_head x l, t, λ y h p. go y p (named_cases y x l h))
    where
      go : (y : ℕ) → f y ≡ true → (y ≡ x) ⊎ (named y l ≡ true) → x ≤ y
      go y p (inl e) = omega arith
      go y p (inr h) = absurd (true≢false (sym p ∙ w y h))
  taken (Some z) t w = by_test (ltb x z)
      (λ b. subst (λ (v : Bool). Lowest f (x ∷ l) (Some (pick v x z))) (sym b) (named_head x l, t, λ y h p. below y p (ltb-true x z b) (named_cases y x l h)))
      (λ b. subst (λ (v : Bool). Lowest f (x ∷ l) (Some (pick v x z))) (sym b) (named_tail z x l w.0, w.1, λ y h p. above y p (ltb-false x z b) (named_cases y x l h)))
    where
      below : (y : ℕ) → f y ≡ true → x < z → (y ≡ x) ⊎ (named y l ≡ true) → x ≤ y
      below y p b (inl e) = omega arith
      below y p b (inr h) = omega (arith, w.2 y h p)

      above : (y : ℕ) → f y ≡ true → z ≤ x → (y ≡ x) ⊎ (named y l ≡ true) → z ≤ y
      above y p b (inl e) = omega arith
      above y p b (inr h) = w.2 y h p

pub lowest_is : (f : ℕ → Bool) (l : List ℕ) → Lowest f l (lowest f l)
lowest_is f [] = λ y h. absurd (true≢false (sym h))
lowest_is f (x ∷ l) =
    let r = lowest_is f l in
    by_test (f x) (λ t. rw t (taken f x l (lowest f l) t r)) (λ n. rw n (passed_over f x l (lowest f l) n r))
