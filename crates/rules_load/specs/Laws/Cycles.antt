-- Taking away whoever waits for nobody leaves none exactly if there is a rank.
use Rattle.std.specs.Prelude.{ℕ, zero, suc, ◌<◌, ◌≤◌, ◌≡◌, refl, Bool, true, false, List, [], ◌∷◌, leb, length}
use Rattle.std.proofs.Common.{arith, le_refl, ap, ◌∙◌, inl, inr, eqb-true, eq-eqb, leb-true, leb-false}
use Rattle.rules.specs.Basics.{pick, any, only}
use Rattle.rules.specs.Holds.{Plugin, running}
use Rattle.rules.specs.Limits.{max_plugins}
use Rattle.rules.specs.Conditions.{needs, waits, still_waiting, none_left_after, no_cycles}
use Rattle.rules_laws.specs.Laws.Tests.{by_test}
use Rattle.rules_laws.specs.Laws.Members.{In, any_some}
use Rattle.rules_laws.specs.Built.{Ranked}
use Rattle.rules_load.specs.Laws.Lists.{any_intro, only_in, in_only}

-- the rank falls along every need in the list
abbrev Falls : (Plugin → ℕ) → List Plugin → Type 0
Falls f l = (a b : Plugin) → In a l → In b l → needs a b ≡ true → f b < f a

-- one of the lowest rank
lowest : (f : Plugin → ℕ) (p : Plugin) (l : List Plugin) → (a : Plugin) × In a (p ∷ l) × ((b : Plugin) → In b (p ∷ l) → f a ≤ f b)
lowest f p [] = (p, inl refl, λ b m. only_one b m)
  where
    only_one : (b : Plugin) → In b (p ∷ []) → f p ≤ f b
    only_one b (inl i) = let e : f p ≡ f b = ap f i in omega arith
    only_one b (inr m) = absurd m
lowest f p (q ∷ l) =
    let s = lowest f q l in
    by_test (leb (f p) (f s.0))
    (λ y. (p, inl refl, λ b m. here (leb-true (f p) (f s.0) y) s.2 b m))
    (λ n. (s.0, inr s.1, λ b m. there s.0 (leb-false (f p) (f s.0) n) s.2 b m))
  where
    here : {a : Plugin} → f p ≤ f a → ((b : Plugin) → In b (q ∷ l) → f a ≤ f b) → (b : Plugin) → In b (p ∷ q ∷ l) → f p ≤ f b
    here h k b (inl i) = let e : f p ≡ f b = ap f i in omega arith
    here h k b (inr m) = let g = k b m in omega arith

    there : (a : Plugin) → f a < f p → ((b : Plugin) → In b (q ∷ l) → f a ≤ f b) → (b : Plugin) → In b (p ∷ q ∷ l) → f a ≤ f b
    there a h k b (inl i) = let e : f p ≡ f b = ap f i in omega arith
    there a h k b (inr m) = k b m

-- where one does not pass, fewer do
pub only_fewer : {A : Type 0} (f : A → Bool) (l : List A) → length (only f l) ≤ length l
only_fewer f [] = le_refl _
only_fewer f (x ∷ l) = let h = only_fewer f l in by_test (f x) (λ y. rw y (omega arith)) (λ n. rw n (omega arith))

pub only_less : {A : Type 0} (f : A → Bool) (l : List A) (a : A) → In a l → f a ≡ false → length (only f l) < length l
only_less {A = A} f [] a h e = elim h [ ]
only_less f (x ∷ l) a (inl i) e = let h = only_fewer f l in rw (ap f i ∙ e) (omega arith)
only_less f (x ∷ l) a (inr m) e = let h = only_less f l a m e in by_test (f x) (λ y. rw y (omega arith)) (λ n. rw n (omega arith))

-- with a rank, none is left after as many rounds as there are plugins
none_left : (f : Plugin → ℕ) (n : ℕ) (l : List Plugin) → length l ≤ n → Falls f l → none_left_after n l ≡ true
unfolding none_left_after
none_left f zero l h k = eq-eqb (length l) 0 (omega arith)
none_left f (suc n) [] h k = none_left f n [] (omega arith) k
none_left f (suc n) (p ∷ l) h k =
    let s = lowest f p l in
    let free : any (needs s.0) (p ∷ l) ≡ false = by_test (any (needs s.0) (p ∷ l))
    (λ y. let w = any_some (needs s.0) (p ∷ l) y in
    let x = k s.0 w.0 s.1 w.1 w.2 in
    let z = s.2 w.0 w.1 in absurd (omega arith))
    (λ e. e) in
    let d = only_less (waits (p ∷ l)) (p ∷ l) s.0 s.1 free in
    none_left f n (still_waiting (p ∷ l)) (omega arith) (λ a b x y. k a b (only_in (waits (p ∷ l)) (p ∷ l) a x).0 (only_in (waits (p ∷ l)) (p ∷ l) b y).0)

-- where none is left, the round in which a plugin is taken away is a rank
rounds : ℕ → List Plugin → Plugin → ℕ
rounds zero l a = 0
rounds (suc n) l a = pick (any (needs a) l) (suc (rounds n (still_waiting l) a)) 0

rounds_fall : (n : ℕ) (l : List Plugin) → none_left_after n l ≡ true → Falls (rounds n l) l
unfolding rounds none_left_after
rounds_fall zero [] e a b x y h = absurd x
rounds_fall zero (p ∷ l) e a b x y h = let z = eqb-true (length (p ∷ l)) 0 e in absurd (omega arith)
rounds_fall (suc n) l e a b x y h =
    let w : any (needs a) l ≡ true = any_intro (needs a) l b y h in
    let x' = in_only (waits l) l a x w in
    by_test (any (needs b) l)
    (λ v. let k = rounds_fall n (still_waiting l) e a b x' (in_only (waits l) l b y v) h in rw (w, v) (omega arith))
    (λ v. rw (w, v) (omega arith))

pub ranked_acyclic : (ps : List Plugin) → length ps ≤ max_plugins → Ranked ps → no_cycles ps ≡ true
ranked_acyclic ps h k =
    let d = only_fewer running ps in
    none_left k.rank max_plugins (only running ps) (omega arith) λ a b x y.
    let m = only_in running ps a x in
    let n = only_in running ps b y in
    k.falls a b m.0 n.0 m.1 n.1

pub acyclic_ranked : (ps : List Plugin) → no_cycles ps ≡ true → Ranked ps
acyclic_ranked ps e = record {
  rank = rounds max_plugins (only running ps);
  falls = λ a b m n x y h. rounds_fall max_plugins (only running ps) e a b (in_only running ps a m x) (in_only running ps b n y) h;
}
