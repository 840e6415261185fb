-- What each kind of change does to the link between one plugin and its story.
use Rattle.std.specs.Prelude.{ℕ, ◌+◌, ◌≡◌, refl, true, false, List, [], ◌∷◌, eqb, None}
use Rattle.std.proofs.Common.{arith, sym, ◌∙◌, subst, true≢false, eqb-true, eq-eqb}
use Rattle.std.proofs.lemmas.Bool.{not-true}
use Rattle.rules_types.specs.declared.Phase.TheVariants.{Loading}
use Rattle.rules_types.specs.declared.Root.{Root}
use Rattle.rules_types.specs.declared.Root.TheVariants.{Unissued, Queued, Spent}
use Rattle.rules.specs.Holds.{Plugin, is_loading}
use Rattle.rules.specs.Holds.{with_revision, with_payload, with_retired, with_root}
use Rattle.rules.specs.Admission.{Invocation, five, is_live, is_queued, is_unissued}
use Rattle.rules.specs.Basics.{same_numbers}
use Rattle.rules_laws.specs.History.{Told, replaced, settled, retired, admitted, called}
use Rattle.rules_laws.specs.Laws.Table.{is_loading_lem}
use Rattle.rules_laws.specs.Laws.Tests.{by_test, both}
use Rattle.rules_laws.specs.Demand3.Link.{live, callable, Present}

pub same_true : (xs ys : List ℕ) → same_numbers xs ys ≡ true → xs ≡ ys
same_true [] [] e = refl
same_true [] (y ∷ ys) e = cc
same_true (x ∷ xs) [] e = cc
same_true (x ∷ xs) (y ∷ ys) e =
    let h = both (eqb x y) (same_numbers xs ys) e in
    let i = eqb-true x y h.0 in
    let j = same_true xs ys h.1 in
    cc

pub same_refl : (xs : List ℕ) → same_numbers xs xs ≡ true
same_refl [] = refl
same_refl (x ∷ xs) = rw (eq-eqb x x refl, same_refl xs)

pub same_of : (xs ys : List ℕ) → xs ≡ ys → same_numbers xs ys ≡ true
same_of xs ys e = subst (λ l. same_numbers xs l ≡ true) e (same_refl xs)

pub is_queued_lem : (o : Root) (v a : ℕ) → is_queued o v a ≡ true → o ≡ Queued v a
is_queued_lem Unissued v a e = cc
is_queued_lem (Queued w b) v a e =
    let h = both (eqb w v) (eqb b a) e in
    let i = eqb-true w v h.0 in
    let j = eqb-true b a h.1 in
    cc
is_queued_lem Spent v a e = cc

pub is_unissued_lem : (o : Root) → is_unissued o ≡ true → o ≡ Unissued
is_unissued_lem Unissued e = refl
is_unissued_lem (Queued w b) e = cc
is_unissued_lem Spent e = cc

-- what a callable invocation says of its plugin
pub record Facts (d : ℕ) (p : Plugin) (t : Invocation) : Type 0 where
  pub loading : p.phase ≡ Loading
  pub queued : p.root ≡ Queued t.revision t.argument
  pub generation : p.generation ≡ t.generation
  pub revision : p.revision ≡ t.revision
  pub retired : p.retired ≡ false
  pub domain : t.domain ≡ d

pub facts : (d : ℕ) (p : Plugin) (t : Invocation) → callable d p t ≡ true → Facts d p t
unfolding callable is_live
facts d p t e =
    let a = both _ _ e in
    let b = both _ _ a.0 in
    let c = both _ _ b.0 in
    let f = both _ _ c.0 in
    let g = both _ _ f.0 in
    record {
      loading = is_loading_lem p.phase g.0;
      queued = is_queued_lem p.root t.revision t.argument g.1;
      generation = eqb-true _ _ f.1;
      revision = eqb-true _ _ c.1;
      retired = not-true p.retired b.1;
      domain = eqb-true _ _ a.1;
    }

pub factual : (d : ℕ) (p : Plugin) (t : Invocation) → Facts d p t → callable d p t ≡ true
unfolding callable is_live
factual d p t f =
    rw (
      f.loading,
      f.queued,
      f.retired,
      eq-eqb _ _ f.generation,
      eq-eqb _ _ f.revision,
      eq-eqb _ _ f.domain,
      eq-eqb t.revision t.revision refl,
      eq-eqb t.argument t.argument refl,
    )

pub not_loading : (d : ℕ) (p : Plugin) (t : Invocation) → is_loading p.phase ≡ false → callable d p t ≡ false
unfolding callable is_live
not_loading d p t e = rw e

pub would_accept : (d : ℕ) (p : Plugin) (t : Invocation) → is_live p t ≡ true → p.retired ≡ false → t.domain ≡ d → callable d p t ≡ true
unfolding callable
would_accept d p t e n i = rw (e, n, eq-eqb _ _ i)

pub lives : (d : ℕ) (p : Plugin) (t : Invocation) → Facts d p t → is_live p t ≡ true
unfolding callable
lives d p t f = (both _ _ (both _ _ (factual d p t f)).0).0

-- any test that would contradict its facts is false
pub not_callable : (d : ℕ) (p : Plugin) (t : Invocation) → (Facts d p t → ⊥) → callable d p t ≡ false
not_callable d p t n = by_test (callable d p t) (λ y. absurd (n (facts d p t y))) (λ e. e)

module _ (d : ℕ) (t : Invocation) (h : List Told) (p : Plugin) (a : Present d t h p) where
  -- where the plugin can't be called, its story is dead
  pub silent : callable d p t ≡ false → live t h ≡ None
  silent e = rw e at a.alive

  -- begin, unload, finish: nothing is told, and the plugin can be called neither before nor after
  pub resting : (q : Plugin) → q.retired ≡ p.retired → q.payload ≡ p.payload → q.revision ≡ p.revision
      → ((v b : ℕ) → q.root ≡ Queued v b → p.root ≡ Queued v b)
      → callable d p t ≡ false → callable d q t ≡ false → Present d t h q
  resting q m v w o e f = record {
    once = a.once;
    there = a.there;
    mark = a.mark ∙ sym m;
    kept = a.kept ∙ sym v;
    bound = λ x b y. let l = a.bound x b (o x b y) in omega arith;
    alive = rw f (silent e);
  }

  -- ready, fail
  pub settling : (q : Plugin) → q.retired ≡ p.retired → q.payload ≡ p.payload → q.revision ≡ p.revision → q.root ≡ p.root
      → callable d q t ≡ false → Present d t (settled ∷ h) q
  settling q m v w o f = record {
    once = a.once;
    there = a.there;
    mark = a.mark ∙ sym m;
    kept = a.kept ∙ sym v;
    bound = λ x b y. let l = a.bound x b (sym o ∙ y) in omega arith;
    alive = rw f;
  }

  pub retiring : Present d t (retired ∷ h) (with_retired true p)
  retiring = record {
    once = a.once;
    there = a.there;
    mark = refl;
    kept = a.kept;
    bound = a.bound;
    alive = rw (not_callable d (with_retired true p) t (λ f. absurd (true≢false f.retired)));
  }

  -- the queued revision is not above the old one, so not the new one
  pub replacing : (v : ℕ) → Present d t (replaced v ∷ h) (with_revision (p.revision + 1) (with_payload v p))
  replacing v = record {
    once = a.once;
    there = a.there;
    mark = a.mark;
    kept = refl;
    bound = λ x b y. let l = a.bound x b y in omega arith;
    alive = rw (not_callable d (with_revision (p.revision + 1) (with_payload v p)) t
        (λ f. let l = a.bound t.revision t.argument f.queued in omega (arith, f.revision)));
  }

  -- the five numbers answered are those that can be called now
  pub admitting : (D b : ℕ) → D ≡ d → p.phase ≡ Loading → p.retired ≡ false → p.root ≡ Unissued → p.id ≡ t.id
      → Present d t (admitted (D ∷ p.id ∷ p.generation ∷ p.revision ∷ b ∷ []) ∷ h) (with_root (Queued p.revision b) p)
  admitting D b g l n u i = record {
    once = a.once;
    there = a.there;
    mark = a.mark;
    kept = a.kept;
    bound = λ x c y. let e : p.revision ≡ x = cc in omega arith;
    alive =
        let q = with_root (Queued p.revision b) p in
        let vs = D ∷ p.id ∷ p.generation ∷ p.revision ∷ b ∷ [] in
        let dead = silent (not_callable d p t (λ f. let z : ◌≡◌ {A = ℕ} 0 1 = cc f.queued in omega arith)) in
        by_test (callable d q t)
        (λ y. let f = facts d q t y in
        let e : vs ≡ five t = cc (f.domain, f.generation, f.revision, f.queued) in
        rw (y, same_of vs (five t) e, a.kept))
        (λ c. rw c (by_test (same_numbers vs (five t))
        (λ y. let e = same_true vs (five t) y in
        let z : callable d q t ≡ true = factual d q t (record {
          loading = l;
          queued = cc;
          generation = cc;
          revision = cc;
          retired = n;
          domain = cc;
        }) in
        cc)
        (λ n. rw (n, dead))));
  }

  -- no other invocation of that plugin can be called
  pub calling : (u : Invocation) → u.id ≡ t.id → callable d p u ≡ true → Present d t (called (five u) ∷ h) (with_root Spent p)
  calling u i y = record {
    once = a.once;
    there = a.there;
    mark = a.mark;
    kept = a.kept;
    bound = λ x c e. let z : ◌≡◌ {A = ℕ} 0 1 = cc in omega arith;
    alive =
        let q = with_root Spent p in
        let f = facts d p u y in
        rw (not_callable d q t (λ g. let z : ◌≡◌ {A = ℕ} 0 1 = cc g.queued in omega arith))
        (by_test (same_numbers (five u) (five t))
        (λ y. rw y)
        (λ n. rw n (silent (not_callable d p t (λ g.
        let e : five u ≡ five t = cc (f.domain, f.generation, f.revision, f.queued, g.domain, g.generation, g.revision, g.queued) in
        absurd (true≢false (sym (same_of (five u) (five t) e) ∙ n)))))));
  }
