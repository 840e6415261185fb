-- The list that the rule gives begins with the declared ports: so the keys can be found again, and the test finds keys exactly if
-- there are some.
use Prim.Native.Nat.{ℕ, zero, suc, ◌≤◌}
use native.Mathlib.Omega.{arith}
use Rattle.std.specs.Prelude.{◌≡◌, refl, true, not, ◌&&◌, eqb, leb, length, take}
use Rattle.std.proofs.Math.Path.{sym, subst}
use Rattle.std.proofs.Common.{◌∙◌, true≢false}
use Rattle.std.proofs.Math.Bool.{or-true}
use mathlib.Core.List.{List, [], ◌∷◌, ◌++◌, map, append-nil}
use Rattle.std.proofs.lemmas.List.{length-map}
use Rattle.std.proofs.Math.Seq.{take_at, append_snoc}
use borrow.Author.Tests.{eqb-true, eqb-false, leb-true, le-leb, not-true}
use Rattle.rules_types.specs.declared.Port.{Port}
use Rattle.rules.specs.Basics.{twice}
use Rattle.rules.specs.Limits.{max_dependency_keys}
use Rattle.rules.specs.Holds.{table_of, Realms, Plugin, provided, same_port}
use Rattle.rules.specs.Ports.{resolve, same_ports}
use Rattle.rules.specs.Dependencies.{own_ports, skipped, inherit, candidates, dependency_list}
use Rattle.rules.specs.Conditions.{given_by, keys_of, given_within}
use Rattle.rules_laws.specs.Laws.Tests.{by_test, both}
use Rattle.rules_laws.specs.Laws.Members.{same_port_lem, same_self}
use Rattle.rules_laws.specs.Laws.Realms.{resolve_key_law}
use Rattle.rules_laws.specs.Built.{Ruled}

pub ports_refl : (l : List Port) → same_ports l l ≡ true
ports_refl [] = refl
ports_refl (p ∷ l) = rw (same_self p, ports_refl l)

pub ports_same : (l m : List Port) → same_ports l m ≡ true → l ≡ m
ports_same [] [] e = refl
ports_same [] (q ∷ m) e = absurd (true≢false (sym e))
ports_same (p ∷ l) [] e = absurd (true≢false (sym e))
ports_same (p ∷ l) (q ∷ m) e =
    let b = both (same_port p q) (same_ports l m) e in
    let i = same_port_lem p q b.0 in
    let j = ports_same l m b.1 in
    cc

-- what is inherited comes behind
inherit_behind : (own qs list : List Port) → (more : List Port) × (inherit own qs list ≡ list ++ more)
inherit_behind own [] list = ([], sym (append-nil list))
inherit_behind own (q ∷ qs) list = by_test (skipped own list q)
    (λ y. let s = inherit_behind own qs list in (s.0, rw y s.1))
    (λ n. let s = inherit_behind own qs (list ++ q ∷ []) in (q ∷ s.0, rw n (s.1 ∙ append_snoc list q s.0)))

keys_back : (z : Realms) (keys : List ℕ) → keys_of (map (resolve z) keys) ≡ keys
unfolding resolve
keys_back z [] = refl
keys_back z (k ∷ keys) = rw (resolve_key_law z.other z.rows k, keys_back z keys)

module _ (z : Realms) (provisions : List Port) (anchor : Port) (parents list : List Port) where
  found_again : (keys : List ℕ) → dependency_list z provisions anchor keys parents ≡ list → keys_of (take (length keys) list) ≡ keys
  unfolding dependency_list
  found_again keys e =
      let ports = map (resolve z) keys in
      let s = inherit_behind (own_ports provisions anchor) (candidates z parents) ports in
      let i : list ≡ ports ++ s.0 = sym e ∙ s.1 in
      rw (i, take_at ports s.0 (length keys) (length-map keys (resolve z))) (keys_back z keys)

  -- the keys of its first m ports are tried, where m is at most n
  tried : (n m : ℕ) → m ≤ n → given_by z provisions anchor parents list (keys_of (take m list)) ≡ true → given_within n z provisions anchor parents list ≡ true
  unfolding given_within
  tried zero m h e = let i : m ≡ 0 = omega arith in subst (λ m. given_by z provisions anchor parents list (keys_of (take m list)) ≡ true) i e
  tried (suc n) m h e = by_test (eqb m (suc n))
      (λ y. rw (subst (λ m. given_by z provisions anchor parents list (keys_of (take m list)) ≡ true) (eqb-true m (suc n) y) e))
      (λ f. let d = eqb-false m (suc n) f in
      rw (tried n m (omega arith) e) (or-true (given_by z provisions anchor parents list (keys_of (take (suc n) list)))))

  -- some keys give it
  abbrev Given : Type 0
  Given = (keys : List ℕ) × (given_by z provisions anchor parents list keys ≡ true)

  given_within_lem : (n : ℕ) → given_within n z provisions anchor parents list ≡ true → Given
  unfolding given_within
  given_within_lem zero e = ([], e)
  given_within_lem (suc n) e = by_test (given_by z provisions anchor parents list (keys_of (take (suc n) list)))
      (λ y. (keys_of (take (suc n) list), y))
      (λ f. given_within_lem n (rw f at e))

module _ (p : Plugin) (parents : List Port) where
  pub ruled_found : Ruled parents p → given_within max_dependency_keys (table_of p.realms) (provided p) p.anchor parents p.dependencies ≡ true
  ruled_found r =
      tried (table_of p.realms) (provided p) p.anchor parents p.dependencies max_dependency_keys (length r.keys) r.few
      (rw (
        found_again (table_of p.realms) (provided p) p.anchor parents p.dependencies r.keys r.gives,
        le-leb (length r.keys) max_dependency_keys r.few,
        r.differ,
        r.gives,
      ) (ports_refl p.dependencies))

  pub found_ruled : given_within max_dependency_keys (table_of p.realms) (provided p) p.anchor parents p.dependencies ≡ true → Ruled parents p
  found_ruled e =
      let s = given_within_lem (table_of p.realms) (provided p) p.anchor parents p.dependencies max_dependency_keys e in
      let keys = s.0 in
      let list = dependency_list (table_of p.realms) (provided p) p.anchor keys parents in
      let a = both (leb (length keys) max_dependency_keys && not (twice keys)) (same_ports list p.dependencies) s.1 in
      let b = both (leb (length keys) max_dependency_keys) (not (twice keys)) a.0 in
      record { keys = keys; few = leb-true _ _ b.0; differ = not-true _ b.1; gives = ports_same _ _ a.1 }
