-- What `id_from` answers: the lowest registered id at or above a number, and none exactly if there is none.
use Rattle.std.specs.Prelude.{ℕ, ◌<◌, ◌≤◌, true, ◌⊎◌, eqb, ltb, leb, Option, Some, None}
use native.Mathlib.Omega.{arith}
use Rattle.std.proofs.Math.Path.{◌≡◌, refl, subst}
use Rattle.std.proofs.Common.{sym, true≢false, inl, inr, ⊎_elim, leb-true, leb-false, ltb-true, ltb-false, eqb-true, eq-eqb}
use mathlib.Core.List.{List, [], ◌∷◌}
use Rattle.rules.specs.Basics.{one, is_some, first}
use Rattle.rules.specs.Holds.{Plugin, Registry, plugins, lookup}
use Rattle.rules.specs.Outcomes.{answers}
use Rattle.rules.specs.Queries.{lower, lowest_from, id_from}
use Rattle.rules_laws.specs.Laws.Tests.{by_test}

abbrev pub Registered : Registry → ℕ → Type 0
Registered r x = is_some (lookup r x) ≡ true

-- Of the numbers of a kind, x is the lowest at or above n.
pub record Lowest (Kind : ℕ → Type 0) (n x : ℕ) : Type 0 where
  pub one_of : Kind x
  pub from : n ≤ x
  pub least : (y : ℕ) → Kind y → n ≤ y → x ≤ y

-- The lowest, or none at or above n.
abbrev Says : (ℕ → Type 0) → ℕ → Option ℕ → Type 0
Says Kind n None = (y : ℕ) → Kind y → y < n
Says Kind n (Some x) = Lowest Kind n x

-- One number more.
module _ (n i : ℕ) (Old New : ℕ → Type 0) (here : New i) (there : (y : ℕ) → Old y → New y) (either : (y : ℕ) → New y → (i ≡ y) ⊎ Old y) where
  passed : i < n → (o : Option ℕ) → Says Old n o → Says New n o
  passed h None s = λ y w. ⊎_elim (λ e. subst (λ x. x < n) e h) (s y) (either y w)
  passed h (Some x) s = record {
    one_of = there x s.one_of;
    from = s.from;
    least = λ y w l. ⊎_elim (λ e. absurd (omega arith)) (λ v. s.least y v l) (either y w);
  }

  lowered : n ≤ i → (o : Option ℕ) → Says Old n o → Says New n (lower i o)
  lowered h None s = record {
    one_of = here;
    from = h;
    least = λ y w l. ⊎_elim (λ e. omega arith) (λ v. let b = s y v in omega arith) (either y w);
  }
  lowered h (Some x) s = by_test (ltb i x)
      (λ t. let b = ltb-true i x t in rw t (record {
        one_of = here;
        from = h;
        least = λ y w l. ⊎_elim (λ e. omega arith) (λ v. let c = s.least y v l in omega arith) (either y w);
      }))
      (λ f. let b = ltb-false i x f in rw f (record {
        one_of = there x s.one_of;
        from = s.from;
        least = λ y w l. ⊎_elim (λ e. omega arith) (λ v. s.least y v l) (either y w);
      }))

-- The ids of a list's plugins.
abbrev Has : List Plugin → ℕ → Type 0
Has ps x = is_some (first (λ (p : Plugin). eqb p.id x) ps) ≡ true

says : (n : ℕ) (ps : List Plugin) → Says (Has ps) n (lowest_from n ps)
says n [] = λ y e. absurd (true≢false (sym e))
says n (p ∷ ps) =
    let s = says n ps in
    by_test (leb n p.id)
    (λ t. rw t (lowered n p.id (Has ps) (Has (p ∷ ps)) here there either (leb-true _ _ t) (lowest_from n ps) s))
    (λ f. rw f (passed n p.id (Has ps) (Has (p ∷ ps)) here there either (leb-false _ _ f) (lowest_from n ps) s))
  where
    here : Has (p ∷ ps) p.id
    here = rw (eq-eqb p.id p.id refl)

    there : (y : ℕ) → Has ps y → Has (p ∷ ps) y
    there y h = by_test (eqb p.id y) (λ t. rw t) (λ f. rw f h)

    either : (y : ℕ) → Has (p ∷ ps) y → (p.id ≡ y) ⊎ Has ps y
    either y h = by_test (eqb p.id y) (λ t. inl (eqb-true p.id y t)) (λ f. inr (rw f at h))

module _ (r : Registry) (n : ℕ) where
  told : Says (Registered r) n (lowest_from n (plugins r))
  unfolding lookup
  told = says n (plugins r)

  pub id_lowest : (x : ℕ) → id_from r n ≡ answers (x ∷ []) → Lowest (Registered r) n x
  unfolding id_from
  id_lowest x e = go (lowest_from n (plugins r)) told e
    where
      go : (o : Option ℕ) → Says (Registered r) n o → answers (one o) ≡ answers (x ∷ []) → Lowest (Registered r) n x
      go None t i = let z : ◌≡◌ {A = ℕ} 0 1 = cc in absurd (omega arith)
      go (Some y) t i = let j : y ≡ x = cc in subst (Lowest (Registered r) n) j t

  pub lowest_id : (x : ℕ) → Lowest (Registered r) n x → id_from r n ≡ answers (x ∷ [])
  unfolding id_from
  lowest_id x w = go (lowest_from n (plugins r)) told
    where
      go : (o : Option ℕ) → Says (Registered r) n o → answers (one o) ≡ answers (x ∷ [])
      go None t = let i = t x w.one_of in let j = w.from in absurd (omega arith)
      go (Some y) t =
          let i = t.least x w.one_of w.from in
          let j = w.least y t.one_of t.from in
          let e : y ≡ x = omega arith in
          rw e

  pub none_below : id_from r n ≡ answers [] → (y : ℕ) → Registered r y → y < n
  unfolding id_from
  none_below e = go (lowest_from n (plugins r)) told e
    where
      go : (o : Option ℕ) → Says (Registered r) n o → answers (one o) ≡ answers [] → (y : ℕ) → Registered r y → y < n
      go None t i = t
      go (Some x) t i = let z : ◌≡◌ {A = ℕ} 0 1 = cc in absurd (omega arith)

  pub below_none : ((y : ℕ) → Registered r y → y < n) → id_from r n ≡ answers []
  unfolding id_from
  below_none h = go (lowest_from n (plugins r)) told
    where
      go : (o : Option ℕ) → Says (Registered r) n o → answers (one o) ≡ answers []
      go None t = refl
      go (Some x) t = let i = h x t.one_of in let j = t.from in absurd (omega arith)
