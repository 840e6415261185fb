-- Tests over lists, and what they say of the members.
use Rattle.std.specs.Prelude.{◌≡◌, refl, Bool, true, false, ◌&&◌, List, [], ◌∷◌}
use Rattle.std.proofs.Common.{ap, ◌∙◌, subst, inl, inr}
use Rattle.std.proofs.Math.Bool.{or-true}
use Rattle.rules.specs.Basics.{any, all, only, every}
use Rattle.rules_laws.specs.Laws.Tests.{by_test, both}
use Rattle.rules_laws.specs.Laws.Members.{In}

module _ {A : Type 0} where
  pub all_intro : (f : A → Bool) (l : List A) → ((a : A) → In a l → f a ≡ true) → all f l ≡ true
  all_intro f [] h = refl
  all_intro f (x ∷ l) h = rw (h x (inl refl), all_intro f l (λ a m. h a (inr m)))

  pub any_intro : (f : A → Bool) (l : List A) (a : A) → In a l → f a ≡ true → any f l ≡ true
  any_intro f [] a h e = elim h [ ]
  any_intro f (x ∷ l) a (inl i) e = rw (ap f i ∙ e)
  any_intro f (x ∷ l) a (inr m) e = rw (any_intro f l a m e) (or-true (f x))

  pub any_none : (f : A → Bool) (l : List A) → ((a : A) → In a l → f a ≡ false) → any f l ≡ false
  any_none f [] h = refl
  any_none f (x ∷ l) h = rw (h x (inl refl), any_none f l (λ a m. h a (inr m)))

  -- those that pass
  pub only_in : (f : A → Bool) (l : List A) (a : A) → In a (only f l) → In a l × (f a ≡ true)
  only_in f [] a h = elim h [ ]
  only_in f (x ∷ l) a m = by_test (f x)
      (λ y. go y (only_in f l a) (rw y at m))
      (λ n. let s = only_in f l a (rw n at m) in (inr s.0, s.1))
    where
      go : f x ≡ true → (In a (only f l) → In a l × (f a ≡ true)) → In a (x ∷ only f l) → In a (x ∷ l) × (f a ≡ true)
      go y h (inl i) = (inl i, subst (λ v. f v ≡ true) i y)
      go y h (inr k) = let s = h k in (inr s.0, s.1)

  pub in_only : (f : A → Bool) (l : List A) (a : A) → In a l → f a ≡ true → In a (only f l)
  in_only f [] a h e = elim h [ ]
  in_only f (x ∷ l) a (inl i) e = rw (ap f i ∙ e) (inl i)
  in_only f (x ∷ l) a (inr m) e = by_test (f x)
      (λ y. rw y (inr (in_only f l a m e)))
      (λ n. rw n (in_only f l a m e))

-- every one of some tests passes
abbrev pub Every : List Bool → Type 0
Every [] = Unit {0}
Every (b ∷ bs) = (b ≡ true) × Every bs

pub every_true : (bs : List Bool) → every bs ≡ true → Every bs
every_true [] e = tt
every_true (b ∷ bs) e = let h = both b (every bs) e in (h.0, every_true bs h.1)

-- tests joined from the left, as `a && b && c` is
abbrev pub chained : Bool → List Bool → Bool
chained a [] = a
chained a (b ∷ bs) = chained (a && b) bs

pub chained_true : (a : Bool) (bs : List Bool) → chained a bs ≡ true → (a ≡ true) × Every bs
chained_true a [] e = (e, tt)
chained_true a (b ∷ bs) e = let w = chained_true (a && b) bs e in let h = both a b w.0 in (h.0, (h.1, w.1))
