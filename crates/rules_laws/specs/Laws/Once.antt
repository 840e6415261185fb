-- Lists of things that have a number each: where no number stands twice, and what is left without one.
use Rattle.std.specs.Prelude.{ℕ, ◌+◌, ◌≡◌, refl, false, List, [], ◌∷◌, map, eqb, Some, None}
use Rattle.std.proofs.Common.{arith, sym, ap, ◌∙◌, inl, inr, eqb-true, eq-eqb, ne_eqb}
use Rattle.std.proofs.lemmas.Bool.{eqb-false}
use Rattle.rules.specs.Basics.{pick, any, first, twice, sum}
use Rattle.rules_laws.specs.Laws.Tests.{by_test, neither}
use Rattle.rules_laws.specs.Laws.Members.{In}

module _ {A : Type 0} (key : A → ℕ) where
  -- those of another number than x
  abbrev pub without : ℕ → List A → List A
  without x [] = []
  without x (a ∷ l) = pick (eqb (key a) x) (without x l) (a ∷ without x l)

  pub without_same : (x : ℕ) (l : List A) → first (λ a. eqb (key a) x) (without x l) ≡ None
  without_same x [] = refl
  without_same x (a ∷ l) =
      let r = without_same x l in
      by_test (eqb (key a) x) (λ y. rw y r) (λ n. rw n (rw n r))

  pub without_other : (x y : ℕ) (l : List A) → eqb x y ≡ false → first (λ a. eqb (key a) y) (without x l) ≡ first (λ a. eqb (key a) y) l
  without_other x y [] n = refl
  without_other x y (a ∷ l) n =
      let r = without_other x y l n in
      by_test (eqb (key a) x)
      (λ t. let i = eqb-true (key a) x t in rw t (rw (i, n) r))
      (λ f. rw f (rw r))

  -- a number that is not found does not stand there, and one that does not stand there is nothing to be without
  pub absent : (x : ℕ) (l : List A) → first (λ a. eqb (key a) x) l ≡ None → any (eqb x) (map key l) ≡ false
  absent x [] e = refl
  absent x (a ∷ l) e = by_test (eqb (key a) x)
      (λ t. let i : Some a ≡ None = rw t at e in cc)
      (λ f. rw (ne_eqb x (key a) (λ i. eqb-false (key a) x f (sym i)), absent x l (rw f at e)))

  whole : (x : ℕ) (l : List A) → any (eqb x) (map key l) ≡ false → without x l ≡ l
  whole x [] e = refl
  whole x (a ∷ l) e =
      let h = neither (eqb x (key a)) (any (eqb x) (map key l)) e in
      rw (ne_eqb (key a) x (λ i. eqb-false x (key a) h.0 (sym i)), whole x l h.1)

  any_without : (x n : ℕ) (l : List A) → any (eqb n) (map key l) ≡ false → any (eqb n) (map key (without x l)) ≡ false
  any_without x n [] e = refl
  any_without x n (a ∷ l) e =
      let h = neither (eqb n (key a)) (any (eqb n) (map key l)) e in
      let k = any_without x n l h.1 in
      by_test (eqb (key a) x) (λ t. rw t k) (λ f. rw f (rw (h.0, k)))

  pub once_without : (x : ℕ) (l : List A) → twice (map key l) ≡ false → twice (map key (without x l)) ≡ false
  once_without x [] e = refl
  once_without x (a ∷ l) e =
      let h = neither (any (eqb (key a)) (map key l)) (twice (map key l)) e in
      let k = once_without x l h.1 in
      by_test (eqb (key a) x) (λ t. rw t k) (λ f. rw f (rw (any_without x (key a) l h.0, k)))

  stands : (x : ℕ) (l : List A) (a : A) → any (eqb x) (map key l) ≡ false → In a l → eqb x (key a) ≡ false
  stands x [] a e h = elim h [ ]
  stands x (b ∷ l) a e (inl i) = let h = neither (eqb x (key b)) (any (eqb x) (map key l)) e in ap (λ c. eqb x (key c)) (sym i) ∙ h.0
  stands x (b ∷ l) a e (inr m) = stands x l a (neither (eqb x (key b)) (any (eqb x) (map key l)) e).1 m

  -- where no number stands twice, each is found by its own
  pub found_once : (l : List A) (a : A) → twice (map key l) ≡ false → In a l → first (λ b. eqb (key b) (key a)) l ≡ Some a
  found_once [] a e h = elim h [ ]
  found_once (b ∷ l) a e (inl i) = rw (eq-eqb (key b) (key a) (ap key i)) (ap Some i)
  found_once (b ∷ l) a e (inr m) =
      let h = neither (any (eqb (key b)) (map key l)) (twice (map key l)) e in
      rw (stands (key b) l a h.0 m) (found_once l a h.1 m)

  -- and without it the sum is less by just that one
  pub sum_without : (f : A → ℕ) (x : ℕ) (l : List A) (a : A) → twice (map key l) ≡ false → first (λ b. eqb (key b) x) l ≡ Some a
      → sum f (without x l) + f a ≡ sum f l
  sum_without f x [] a e i = let z : ◌≡◌ {A = ℕ} 0 1 = cc in omega arith
  sum_without f x (b ∷ l) a e i =
      let h = neither (any (eqb (key b)) (map key l)) (twice (map key l)) e in
      by_test (eqb (key b) x)
      (λ t. let j : Some b ≡ Some a = rw t at i in
      let k : f b ≡ f a = cc in
      let m = ap (λ y. any (eqb y) (map key l)) (sym (eqb-true (key b) x t)) ∙ h.0 in
      let w : sum f (without x l) ≡ sum f l = ap (sum f) (whole x l m) in
      rw t (omega arith))
      (λ n. let r = sum_without f x l a h.1 (rw n at i) in rw n (omega arith))
