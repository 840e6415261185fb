-- Plugins before, one, and plugins behind: what ids that rise, rows and a search in the whole list say of the parts.
use Rattle.std.specs.Prelude.{ℕ, ◌+◌, ◌≤◌, ◌<◌, ◌≡◌, refl, Bool, true, ◌&&◌, List, [], ◌∷◌, ◌++◌, eqb, ltb, leb, length, Option, Some, None}
use Rattle.std.proofs.Common.{arith, le_refl, sym, ap, ◌∙◌, inl, inr, ne_eqb, leb-true, ltb-true, ltb-false}
use Rattle.rules.specs.Basics.{is_some, or_none}
use Rattle.rules.specs.Limits.{max_plugins}
use Rattle.rules.specs.Holds.{Plugin, Registry, plugins, lookup, sum_rows}
use Rattle.rules.specs.Registration.{parent_of}
use Rattle.rules.specs.Conditions.{among, ids_rise, realms_rise, provisions_resolved, parent_in, by_rule}
use Rattle.rules_laws.specs.Laws.Tests.{by_test, both}
use Rattle.rules_laws.specs.Laws.Members.{In}
use Rattle.rules_laws.specs.Laws.Placed.{held_placed}
use Rattle.rules_load.specs.Joining.{ports_fit, ports_join, standing, behind_ids}

pub standing_plugins : (done : List Plugin) → length done ≤ max_plugins → plugins (standing done) ≡ done
standing_plugins done h = held_placed max_plugins done h

pub rows_append : (l m : List Plugin) → sum_rows (l ++ m) ≡ sum_rows l + sum_rows m
rows_append [] m = omega arith
rows_append (p ∷ l) m = let i = rows_append l m in omega arith

-- What is asked of a plugin's ports reads no more of a registry than its plugins.
abbrev pub ports_among : List Plugin → Plugin → Bool
ports_among ps p = or_none (λ x. is_some (among ps x)) p.parent && realms_rise p && provisions_resolved p && by_rule ps p

pub ports_among_lem : (r : Registry) (p : Plugin) → ports_join r p ≡ ports_among (plugins r) p
unfolding ports_fit lookup
ports_among_lem r p = rw (parent p.parent)
  where
    parent : (v : Option ℕ) → parent_of r v ≡ parent_in (plugins r) v
    parent None = refl
    parent (Some x) = refl

pub ports_standing : (done : List Plugin) → length done ≤ max_plugins → (p : Plugin) → ports_join (standing done) p ≡ ports_among done p
ports_standing done h p = ports_among_lem (standing done) p ∙ ap (λ l. ports_among l p) (standing_plugins done h)

-- ids that rise
pub rises_behind : (f n : ℕ) (l m : List Plugin) → ids_rise f n (l ++ m) ≡ true → ids_rise (behind_ids f l) n m ≡ true
rises_behind f n [] m e = e
rises_behind f n (p ∷ l) m e = rises_behind (p.id + 1) n l m (both (leb f p.id) (ids_rise (p.id + 1) n (l ++ m)) e).1

rises_above : (f n : ℕ) (l : List Plugin) → ids_rise f n l ≡ true → (a : Plugin) → In a l → f ≤ a.id
rises_above f n [] e a h = elim h [ ]
rises_above f n (p ∷ l) e a (inl i) =
    let w = leb-true f p.id (both (leb f p.id) (ids_rise (p.id + 1) n l) e).0 in
    let j : p.id ≡ a.id = ap (λ (v : Plugin). v.id) i in
    omega arith
rises_above f n (p ∷ l) e a (inr m) =
    let w = both (leb f p.id) (ids_rise (p.id + 1) n l) e in
    let k = leb-true f p.id w.0 in
    let h = rises_above (p.id + 1) n l w.1 a m in
    omega arith

rises_from : (f n : ℕ) (l m : List Plugin) → ids_rise f n (l ++ m) ≡ true → f ≤ behind_ids f l
rises_from f n [] m e = le_refl f
rises_from f n (p ∷ l) m e =
    let w = both (leb f p.id) (ids_rise (p.id + 1) n (l ++ m)) e in
    let k = leb-true f p.id w.0 in
    let h = rises_from (p.id + 1) n l m w.1 in
    omega arith

rises_below : (f n : ℕ) (l m : List Plugin) → ids_rise f n (l ++ m) ≡ true → (a : Plugin) → In a l → a.id < behind_ids f l
rises_below f n [] m e a h = elim h [ ]
rises_below f n (p ∷ l) m e a (inl i) =
    let h = rises_from (p.id + 1) n l m (both (leb f p.id) (ids_rise (p.id + 1) n (l ++ m)) e).1 in
    let j : p.id ≡ a.id = ap (λ (v : Plugin). v.id) i in
    omega arith
rises_below f n (p ∷ l) m e a (inr k) = rises_below (p.id + 1) n l m (both (leb f p.id) (ids_rise (p.id + 1) n (l ++ m)) e).1 a k

-- no one behind has the id
among_none : (l : List Plugin) (x : ℕ) → ((a : Plugin) → In a l → x ≡ a.id → ⊥) → among l x ≡ None
among_none [] x h = refl
among_none (p ∷ l) x h = rw (ne_eqb p.id x (λ i. h p (inl refl) (sym i))) (among_none l x (λ a m. h a (inr m)))

among_front : (l m : List Plugin) (x : ℕ) → ((a : Plugin) → In a m → x ≡ a.id → ⊥) → among (l ++ m) x ≡ among l x
among_front [] m x h = among_none m x h
among_front (p ∷ l) m x h = by_test (eqb p.id x) (λ y. rw y) (λ n. rw (n, among_front l m x h))

-- So a lower id of the whole is one of those before, and those before have lower ids.
module _ (f n : ℕ) (done : List Plugin) (p : Plugin) (rest : List Plugin) (e : ids_rise f n (done ++ p ∷ rest) ≡ true) where
  pub next_above : behind_ids f done ≤ p.id
  next_above = leb-true _ _ (both (leb (behind_ids f done) p.id) (ids_rise (p.id + 1) n rest) (rises_behind f n done (p ∷ rest) e)).0

  lower_before : (x : ℕ) → x < p.id → among (done ++ p ∷ rest) x ≡ among done x
  lower_before x h = among_front done (p ∷ rest) x (behind x h)
    where
      behind : (x : ℕ) → x < p.id → (a : Plugin) → In a (p ∷ rest) → x ≡ a.id → ⊥
      behind x h a (inl i) j = let k : p.id ≡ a.id = ap (λ (v : Plugin). v.id) i in omega arith
      behind x h a (inr m) j =
          let w = both (leb (behind_ids f done) p.id) (ids_rise (p.id + 1) n rest) (rises_behind f n done (p ∷ rest) e) in
          let k = rises_above (p.id + 1) n rest w.1 a m in
          omega arith

  higher_none : (x : ℕ) → p.id ≤ x → among done x ≡ None
  higher_none x h = among_none done x λ a m i.
      let j = rises_below f n done (p ∷ rest) e a m in
      let k = next_above in
      omega arith

  -- a parent that stands before is a lower one of the text
  pub parent_before : (v : Option ℕ) → or_none (λ x. is_some (among done x)) v ≡ or_none (λ x. ltb x p.id && is_some (among (done ++ p ∷ rest) x)) v
  parent_before None = refl
  parent_before (Some x) = by_test (ltb x p.id)
      (λ y. rw (y, lower_before x (ltb-true x p.id y)))
      (λ h. rw (h, higher_none x (ltb-false x p.id h)))

  -- and its list is found there
  pub list_before : (v : Option ℕ) → or_none (λ x. is_some (among done x)) v ≡ true → parent_in (done ++ p ∷ rest) v ≡ parent_in done v
  list_before None h = refl
  list_before (Some x) h = lower_before x
      (ltb-true x p.id (both (ltb x p.id) (is_some (among (done ++ p ∷ rest) x)) (sym (parent_before (Some x)) ∙ h)).0)
