-- "Without cycles", word by word: no chain of needs among those that run leads from a plugin back to it. The test says exactly that.
use Rattle.std.specs.Prelude.{ℕ, zero, suc, ◌≤◌, ◌<◌, ◌≡◌, refl, Bool, true, false, List, [], ◌∷◌, length}
use Rattle.std.proofs.Common.{arith, sym, ◌∙◌, true≢false, inl, inr, ⊎_elim, eq-eqb}
use Rattle.std.proofs.Math.Path.{subst⁻¹}
use Rattle.rules.specs.Basics.{all, only}
use Rattle.rules.specs.Holds.{Plugin, running}
use Rattle.rules.specs.Limits.{max_plugins}
use Rattle.rules.specs.Conditions.{needs, waits, still_waiting, none_left_after, no_cycles}
use Rattle.rules_laws.specs.Laws.Tests.{by_test}
use Rattle.rules_laws.specs.Laws.Members.{In, any_some, all_true}
use Rattle.rules_laws.specs.Built.{Ranked}
use Rattle.rules_load.specs.Laws.Lists.{only_in}
use Rattle.rules_load.specs.Laws.Cycles.{only_fewer, only_less, acyclic_ranked}
use Rattle.rules_load.specs.Laws.Chains.{Chain, link, before}

joined : {ps : List Plugin} {a b c : Plugin} → Chain ps a b → Chain ps b c → Chain ps a c
joined (link n) d = before n d
joined (before n c) d = before n (joined c d)

chain_falls : (ps : List Plugin) (k : Ranked ps) {a b : Plugin} → Chain ps a b → k.rank b < k.rank a
chain_falls ps k (link {a} {b} n) = k.falls a b n.here n.there n.runs n.runs_too n.needs
chain_falls ps k (before {a} {b} n c) =
    let l = k.falls a b n.here n.there n.runs n.runs_too n.needs in
    let m = chain_falls ps k c in
    omega arith

pub acyclic_chains : (ps : List Plugin) → no_cycles ps ≡ true → (a : Plugin) → Chain ps a a → ⊥
acyclic_chains ps e a c = let l = chain_falls ps (acyclic_ranked ps e) c in omega arith

-- where each of a list leads to one of the list, some one leads to itself
returns : {A : Type 0} (C : A → A → Type 0) → ((a b c : A) → C a b → C b c → C a c) → (x : A) (l : List A)
    → ((a : A) → In a (x ∷ l) → (b : A) × In b (x ∷ l) × C a b) → (a : A) × C a a
returns C tr x [] f = let s = f x (inl refl) in ⊎_elim (λ i. (x, subst⁻¹ (C x) i s.2)) (λ m. absurd m) s.1
returns C tr x (y ∷ l) f =
    let s = f x (inl refl) in
    ⊎_elim (λ i. (x, subst⁻¹ (C x) i s.2))
    (λ m. returns C tr y l λ a n.
    let t = f a (inr n) in
    ⊎_elim (λ i. (s.0, m, tr a x s.0 (subst⁻¹ (C a) i t.2) s.2)) (λ k. (t.0, k, t.2)) t.1)
    s.1

not_all : {A : Type 0} (f : A → Bool) (l : List A) → all f l ≡ false → (a : A) × In a l × (f a ≡ false)
not_all f [] e = absurd (true≢false e)
not_all f (x ∷ l) e = by_test (f x)
    (λ y. let s = not_all f l (rw y at e) in (s.0, inr s.1, s.2))
    (λ n. (x, inl refl, n))

-- where some are left, some one is in a cycle
left_cycle : (ps : List Plugin) (n : ℕ) (l : List Plugin) → length l ≤ n → ((a : Plugin) → In a l → In a ps × (running a ≡ true))
    → none_left_after n l ≡ false → (a : Plugin) × Chain ps a a
unfolding none_left_after
left_cycle ps zero l h k e = absurd (true≢false (sym (eq-eqb (length l) 0 (omega arith)) ∙ e))
left_cycle ps (suc n) [] h k e = left_cycle ps n [] (omega arith) k e
left_cycle ps (suc n) (p ∷ l) h k e =
    let t = p ∷ l in
    by_test (all (waits t) t)
    (λ y. returns (Chain ps) (λ a b c. joined) p l λ a m.
    let s = any_some (needs a) t (all_true (waits t) t a y m) in
    let i = k a m in
    let j = k s.0 s.1 in
    (s.0, s.1, link (record { here = i.0; there = j.0; runs = i.1; runs_too = j.1; needs = s.2 })))
    (λ f. let s = not_all (waits t) t f in
    let d = only_less (waits t) t s.0 s.1 s.2 in
    left_cycle ps n (still_waiting t) (omega arith) (λ a m. k a (only_in (waits t) t a m).0) e)

pub chains_acyclic : (ps : List Plugin) → length ps ≤ max_plugins → ((a : Plugin) → Chain ps a a → ⊥) → no_cycles ps ≡ true
chains_acyclic ps h none =
    let d = only_fewer running ps in
    by_test (no_cycles ps) (λ y. y)
    (λ f. let s = left_cycle ps max_plugins (only running ps) (omega arith) (only_in running ps) f in absurd (none s.0 s.1))
