-- A list that the rule gives begins with its declared ports, so the keys in front that can be declared are all that need be tried.
use Prim.Native.Nat.{ℕ, zero, suc, ◌+◌, ◌-◌, ◌≤◌, ◌<◌}
use native.Mathlib.Omega.{arith}
use mathlib.Core.Path.{◌≡◌, refl, sym, ap, ◌∙◌}
use mathlib.Core.Logic.{⊎_elim}
use mathlib.Core.Bool.{Bool, true, false, not, ◌&&◌, true≢false}
use mathlib.Core.List.{List, [], ◌∷◌, ◌++◌, map}
use lib.Dec.{eqb, leb}
use lib.ListN.{length, take, replicate, length-map, length-take}
use lib.Seq.{take_at, take_all, take-take, take-append-le}
use borrow.Author.Tests.{le-leb, eqb-true, eqb-false}
use Rattle.rules.specs.Basics.{all, twice}
use Rattle.rules_types.specs.declared.Port.{Port}
use Rattle.rules.specs.Holds.{Realms, same_port}
use Rattle.rules.specs.Ports.{resolve, same_ports}
use Rattle.rules.specs.Dependencies.{dependency_list}
use Rattle.rules.specs.Conditions.{resolved_in, given_by, keys_of, given_within}
use Rattle.rules.specs.Limits.{max_dependency_keys}
use Rattle.rules_laws.specs.Laws.Tests.{by_test, both}
use Rattle.rules_laws.specs.Laws.Members.{same_self}
use Rattle.rules_laws.specs.Laws.Realms.{resolve_key_law}
use Rattle.rules_upstream.specs.Dependencies.{declared_first}
use Rattle.ports.specs.Places.{same_eq}
use Rattle.ports_given.specs.declared.FrontKeys.{FrontKeys}
use Rattle.ports_given.proofs.Fronts.{keys_take, declarable_take}
use Rattle.ports_given.specs.Given.{declarable, Front, Most}

-- what a key resolves to has the realm its key resolves to
resolved_key : (z : Realms) (k : ℕ) → resolved_in z (resolve z k) ≡ true
unfolding resolve
resolved_key z k = ap (λ x. same_port (resolve z x) (resolve z k)) (resolve_key_law z.other z.rows k) ∙ same_self (resolve z k)

all_resolved : (z : Realms) (keys : List ℕ) → all (resolved_in z) (map (resolve z) keys) ≡ true
all_resolved z [] = refl
all_resolved z (k ∷ keys) = rw (resolved_key z k, all_resolved z keys)

-- as many in front as there are
short_take : {A : Type 0} (n : ℕ) (l : List A) → take (length (take n l)) l ≡ take n l
short_take zero l = refl
short_take (suc n) [] = refl
short_take (suc n) (x ∷ l) = ap (λ m. x ∷ m) (short_take n l)

module _ (z : Realms) (provisions : List Port) (anchor : Port) (parents list : List Port) where
  -- the list from the keys of its first n ports, and from those of at most n
  abbrev pub by : ℕ → Bool
  by n = given_by z provisions anchor parents list (keys_of (take n list))

  abbrev pub within : ℕ → Bool
  within n = given_within n z provisions anchor parents list

  -- where the rule gives the list from them, they are declarable
  by_declarable : (n : ℕ) → by n ≡ true → declarable z (take n list) ≡ true
  by_declarable n e =
      let keys = keys_of (take n list) in
      let a = both (leb (length keys) max_dependency_keys && not (twice keys)) (same_ports (dependency_list z provisions anchor keys parents) list) e in
      let b = both (leb (length keys) max_dependency_keys) (not (twice keys)) a.0 in
      let ports = map (resolve z) keys in
      let (more, s) = declared_first z provisions anchor keys parents in
      let split : list ≡ ports ++ more = sym (same_eq _ _ a.1) ∙ s in
      let size : length ports ≡ length (take n list) = length-map keys (resolve z) ∙ length-map (take n list) (λ (q : Port). q.key) in
      let front : take n list ≡ ports = sym (short_take n list) ∙ ap (take (length (take n list))) split ∙ take_at ports more _ size in
      rw (b.1, ap (all (resolved_in z)) front ∙ all_resolved z keys)

  -- by the answer of a try
  pub within_yes : (n : ℕ) → by n ≡ true → within n ≡ true
  unfolding given_within
  within_yes zero e = e
  within_yes (suc n) e = rw e

  pub within_no : (n : ℕ) → (n ≡ 0 → ⊥) → by n ≡ false → within n ≡ within (n - 1)
  unfolding given_within
  within_no zero e d = absurd (e refl)
  within_no (suc n) e d = let s : suc n - 1 ≡ n = omega arith in rw (d, s)

  pub within_none : (n : ℕ) → n ≡ 0 → by n ≡ false → within n ≡ false
  unfolding given_within
  within_none n e d = ap within e ∙ ap by (sym e) ∙ d

  -- more keys than are worth a try are tried in vain, or are the same keys
  within_fewer : (n m : ℕ) → m ≤ n → ((k : ℕ) → m < k → k ≤ n → by k ≡ true → take k list ≡ take m list) → within n ≡ within m
  unfolding given_within
  within_fewer zero m h same = let e : 0 ≡ m = omega arith in ap within e
  within_fewer (suc n) m h same = by_test (eqb m (suc n))
      (λ y. ap within (sym (eqb-true m (suc n) y)))
      (λ f. let less : m ≤ n = let d = eqb-false m (suc n) f in omega arith in
      let ih = within_fewer n m less (λ k a b. same k a (omega arith)) in
      by_test (by (suc n))
      (λ t. let e = same (suc n) (omega arith) (omega arith) t in
      let there : by m ≡ true = ap (λ l. given_by z provisions anchor parents list (keys_of l)) (sym e) ∙ t in
      rw t (sym (within_yes m there)))
      (λ u. rw u ih))

  pub within_front : {r : FrontKeys} → Most z list r → within max_dependency_keys ≡ within r.count
  within_front {r} f = within_fewer max_dependency_keys r.count f.front.few λ k h l t. ⊎_elim
      (λ e. absurd (omega arith))
      (λ s. ⊎_elim
      (λ e. take_all k list (omega arith) ∙ sym (take_all r.count list (omega arith)))
      (λ e. absurd (true≢false (sym (declarable_take z (r.count + 1) k list (omega arith) (by_declarable k t)) ∙ e)))
      s)
      f.end

-- a try with the first n of the keys in front: they are few and different, so whether the rule gives the list is all that is asked
module _ (z : Realms) (provisions : List Port) (anchor : Port) (parents list : List Port)
    {m : ℕ} {words : List ℕ} (f : Front z list m words) (n : ℕ) (h : n ≤ m) where
  first_keys : take n words ≡ keys_of (take n list)
  first_keys =
      let keys = keys_of (take m list) in
      let size : n ≤ length keys = omega (arith, f.inside, length-map (take m list) (λ (q : Port). q.key), length-take m list) in
      ap (take n) f.filled
      ∙ take-append-le n keys (replicate (max_dependency_keys - length keys) 0) size
      ∙ sym (keys_take n (take m list))
      ∙ ap keys_of (take-take n m list h)

  pub tried : {keys : List ℕ} {b : Bool} → keys ≡ take n words → b ≡ same_ports (dependency_list z provisions anchor keys parents) list
      → b ≡ by z provisions anchor parents list n
  tried k g =
      let keys = keys_of (take n list) in
      let few : length keys ≤ max_dependency_keys = omega (arith, f.few, length-map (take n list) (λ (q : Port). q.key), length-take n list) in
      let d = both (all (resolved_in z) (take n list)) (not (twice keys)) (declarable_take z n m list h f.declared) in
      g ∙ ap (λ ks. same_ports (dependency_list z provisions anchor ks parents) list) (k ∙ first_keys)
      ∙ sym (rw (le-leb (length keys) max_dependency_keys few, d.1))
