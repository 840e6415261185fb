-- No cycles come up: where a plugin comes to run, nobody that runs needs it.
use Rattle.std.specs.Prelude.{ℕ, suc, ◌+◌, ◌<◌, ◌≤◌, ◌≡◌, refl, true, false, List, [], ◌∷◌, ◌⊎◌, eqb, Option, Some}
use Rattle.std.proofs.Common.{arith, sym, ap, ◌∙◌, subst, true≢false, eq-eqb}
use Rattle.std.proofs.Math.Logic.{inl, inr, ⊎_elim}
use Rattle.rules_types.specs.declared.Port.{Port}
use Rattle.rules.specs.Basics.{pick, any, all}
use Rattle.rules.specs.Holds.{Plugin, Registry, plugins, lookup, provides, running}
use Rattle.rules.specs.Phases.{available}
use Rattle.rules.specs.Conditions.{needs}
use Rattle.rules_laws.specs.Laws.Tests.{by_test}
use Rattle.rules_laws.specs.Laws.Members.{In, any_some, all_true, lookup_in}
use Rattle.rules_laws.specs.Built.{Served, Wanted, Ranked, Built}
use Rattle.rules_laws.specs.Kept.Places.{Only, distinct}
use Rattle.rules_laws.specs.Kept.Plugins.{Alike, alike_provides}
use Rattle.rules_laws.specs.Kept.Providers.{available_served}

-- a rank that none of the list is above
top : (Plugin → ℕ) → List Plugin → ℕ
top f [] = 0
top f (a ∷ l) = f a + top f l

below_top : (f : Plugin → ℕ) (l : List Plugin) (a : Plugin) → In a l → f a ≤ top f l
unfolding top
below_top f [] a h = elim h [ ]
below_top f (x ∷ l) a (inl i) = let e : f x ≡ f a = ap f i in omega arith
below_top f (x ∷ l) a (inr m) = let h = below_top f l a m in omega arith

-- the rank of the plugin with that id becomes c
rerank : ℕ → ℕ → (Plugin → ℕ) → Plugin → ℕ
rerank id c f a = pick (eqb id a.id) c (f a)

module _ (r r' : Registry) (q : Plugin) (u : Option Plugin) (o : Only r r' q.id u (Some q)) (k : Ranked (plugins r)) (c : ℕ) where
  -- a member afterwards is q, with rank c, or another one, with the rank that it had
  abbrev Case : Plugin → Type 0
  Case a = ((a ≡ q) × (rerank q.id c k.rank a ≡ c)) ⊎ (In a (plugins r) × (rerank q.id c k.rank a ≡ k.rank a))

  case : (a : Plugin) → In a (plugins r') → Case a
  unfolding rerank
  case a m = ⊎_elim
      (λ i. let j : a ≡ q = cc in inl (j, rw (eq-eqb q.id a.id (ap (λ (v : Plugin). v.id) (sym j)))))
      (λ n. inr (n.0, rw n.1))
      (o.members a m)

  -- what q needs ranks below c, and who needs q ranks above
  pub ranked_with : (running q ≡ true → needs q q ≡ true → ⊥)
      → ((b : Plugin) → In b (plugins r) → running q ≡ true → running b ≡ true → needs q b ≡ true → k.rank b < c)
      → ((a : Plugin) → In a (plugins r) → running a ≡ true → running q ≡ true → needs a q ≡ true → c < k.rank a)
      → Ranked (plugins r')
  ranked_with self down up = record { rank = rerank q.id c k.rank; falls = λ a b m n x y e. go a b x y e (case a m) (case b n) }
    where
      go : (a b : Plugin) → running a ≡ true → running b ≡ true → needs a b ≡ true → Case a → Case b
          → rerank q.id c k.rank b < rerank q.id c k.rank a
      go a b x y e (inl i) (inl j) =
          let x' = subst (λ v. running v ≡ true) i.0 x in
          absurd (self x' (subst (λ v. needs v q ≡ true) i.0 (subst (λ v. needs a v ≡ true) j.0 e)))
      go a b x y e (inl i) (inr n) =
          let x' = subst (λ v. running v ≡ true) i.0 x in
          let l = down b n.0 x' y (subst (λ v. needs v b ≡ true) i.0 e) in
          rw (i.1, n.1) l
      go a b x y e (inr m) (inl j) =
          let y' = subst (λ v. running v ≡ true) j.0 y in
          let l = up a m.0 x y' (subst (λ v. needs a v ≡ true) j.0 e) in
          rw (j.1, m.1) l
      go a b x y e (inr m) (inr n) = rw (m.1, n.1) (k.falls a b m.0 n.0 x y e)

  -- it does not run
  pub ranked_resting : running q ≡ false → Ranked (plugins r')
  ranked_resting n = ranked_with
      (λ y _. true≢false (sym y ∙ n))
      (λ b _ y _ _. absurd (true≢false (sym y ∙ n)))
      (λ a _ _ y _. absurd (true≢false (sym y ∙ n)))

-- The plugin p, registered, becomes q; it comes to run only if each dependency has an Active provider.
module _ (r : Registry) (b : Built r) (p q : Plugin) (e : lookup r q.id ≡ Some p) (s : Alike p q)
    (starts : running p ≡ false → running q ≡ true → all (available r) p.dependencies ≡ true) where
  -- a plugin that does not run serves nobody
  unserving : running p ≡ false → (k : Port) → Served r k → provides p k ≡ true → ⊥
  unserving n k v h =
      let i = b.wired.sole q.id v.id p v.plugin k e v.registered h v.gives in
      let f : lookup r q.id ≡ Some v.plugin = ap (lookup r) i ∙ v.registered in
      let g : p ≡ v.plugin = cc in
      let y : running v.plugin ≡ true = rw v.active in
      true≢false (sym y ∙ ap running (sym g) ∙ n)

  -- who needs q needs p
  as_before : (a : Plugin) → needs a q ≡ needs a p
  as_before a = go a.dependencies
    where
      go : (l : List Port) → any (provides q) l ≡ any (provides p) l
      go [] = refl
      go (k ∷ l) = rw (alike_provides p q s k, go l)

  needed : (a : Plugin) → needs a q ≡ true → (k : Port) × In k a.dependencies × (provides p k ≡ true)
  needed a h = any_some (provides p) a.dependencies (sym (as_before a) ∙ h)

  -- so nobody that runs needs p, and p does not need itself
  unwanted : running p ≡ false → (a : Plugin) → In a (plugins r) → running a ≡ true → needs a q ≡ true → ⊥
  unwanted n a m y h =
      let d = needed a h in
      let want : Wanted r d.0 = record { id = a.id; plugin = a; registered = distinct r b.once a m; runs = y; depends = d.1 } in
      unserving n d.0 (b.wired.served d.0 want) d.2

  apart : running p ≡ false → running q ≡ true → needs q q ≡ true → ⊥
  apart n y h =
      let d = needed q h in
      let m = subst (In d.0) s.dependencies d.1 in
      unserving n d.0 (available_served r b.once d.0 (all_true (available r) p.dependencies d.0 (starts n y) m)) d.2

  pub turn_ranked : (r' : Registry) → Only r r' q.id (Some p) (Some q) → Ranked (plugins r) → Ranked (plugins r')
  turn_ranked r' o k =
      let m = lookup_in r q.id p e in
      by_test (running q)
      (λ y. by_test (running p)
      (λ x. ranked_with r r' q (Some p) o k (k.rank p)
      (λ _ h. let l = k.falls p p m m x x (rw s.dependencies at (sym (as_before q) ∙ h)) in omega arith)
      (λ a n _ z h. k.falls p a m n x z (rw s.dependencies at h))
      (λ a n z _ h. k.falls a p n m z x (sym (as_before a) ∙ h)))
      (λ n. ranked_with r r' q (Some p) o k (suc (top k.rank (plugins r)))
      (apart n)
      (λ a i _ z h. let l = below_top k.rank (plugins r) a i in omega arith)
      (λ a i z _ h. absurd (unwanted n a i z h))))
      (λ n. ranked_resting r r' q (Some p) o k 0 n)
