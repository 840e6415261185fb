-- The rows of a word's places, one more.
use Rattle.std.specs.Prelude.{Option, Some, None}
use Prim.Native.Nat.{ℕ, ◌+◌, ◌%◌, ◌<◌, ◌≤◌}
use native.Mathlib.Nat.{mod-eq_of_lt}
use native.Mathlib.Omega.{arith}
use mathlib.Core.Path.{◌≡◌, refl, sym, ap, ◌∙◌}
use mathlib.Core.Bool.{Bool, true, false}
use mathlib.Core.List.{List}
use lib.Dec.{eqb}
use lib.ListN.{length, set, length-set}
use lib.Seq.{get_or-set_same, get_or-set_other}
use borrow.Author.Tests.{eqb-true, eqb-false}
use Rattle.rules.specs.Basics.{pick, all}
use Rattle.rules.specs.Phases.{available}
use Rattle.rules.specs.Ports.{pairs}
use Rattle.rules_types.specs.declared.Port.{Port}
use Rattle.rules_laws.specs.Laws.Tests.{by_test}
use Rattle.memory.specs.Layout.{dep_part, places}
use Rattle.memory.specs.View.{plugin_at, view}
use Rattle.memory_providers.specs.Words.{is_among, word_of}
use Rattle.registry_cycles.specs.Rows.{provides_one, row_of, row_at, served_in, RowsFor}

deps_at_lem : (m : List ℕ) (i : ℕ) → (plugin_at m i).dependencies ≡ pairs (dep_part m i)
unfolding plugin_at
deps_at_lem m i = refl

-- the row of a place, by its dependencies' words
module _ (m : List ℕ) (among i : ℕ) (h : i < places) where
  pub row_among : is_among among i ≡ true → (ws : List ℕ) → ws ≡ dep_part m (i % places) → (r : Option ℕ) → r ≡ row_of m (pairs ws) → r ≡ row_at m among i
  row_among t ws e r f =
      f ∙ ap (row_of m) (ap pairs (e ∙ ap (dep_part m) (mod-eq_of_lt h)) ∙ sym (deps_at_lem m i)) ∙ sym (ap (λ b. pick b (row_of m (plugin_at m i).dependencies) (Some 0)) t)

  pub row_apart : is_among among i ≡ false → Some 0 ≡ row_at m among i
  row_apart u = sym (ap (λ b. pick b (row_of m (plugin_at m i).dependencies) (Some 0)) u)

-- a place that has a row is served, and one that has none is not
module _ (m : List ℕ) (among i : ℕ) where
  abbrev deps : List Port
  deps = (plugin_at m i).dependencies

  pub row_is : (x : ℕ) → Some x ≡ row_at m among i
      → (served_in m among i ≡ true) × (is_among among i ≡ true → x ≡ word_of (provides_one m deps) places 0)
  row_is x e = by_test (is_among among i)
      (λ t. let s : Some x ≡ row_of m deps = rw t at e in
      let r = served (all (available (view m)) deps) s in
      (rw (t, r.0), λ y. r.1))
      (λ u. (rw u, λ y. let z : true ≡ false = sym y ∙ u in cc))
    where
      served : (b : Bool) → Some x ≡ pick b (Some (word_of (provides_one m deps) places 0)) None → (b ≡ true) × (x ≡ word_of (provides_one m deps) places 0)
      served true e = (refl, cc)
      served false e = (cc, cc)

  pub row_not : None ≡ row_at m among i → served_in m among i ≡ false
  row_not e = by_test (is_among among i)
      (λ t. let s : None ≡ row_of m deps = rw t at e in rw (t, unserved (all (available (view m)) deps) s))
      (λ u. let s : None ≡ Some 0 = rw u at e in cc)
    where
      unserved : (b : Bool) → None ≡ pick b (Some (word_of (provides_one m deps) places 0)) None → b ≡ false
      unserved true e = cc
      unserved false e = refl

-- the rows below i are there
pub record Rows (m : List ℕ) (among : ℕ) (rows : List ℕ) (i : ℕ) : Type 0 where
  pub below : i ≤ places
  pub size : length rows ≡ places
  pub there : RowsFor m among rows i

pub rows_begin : (m : List ℕ) (among : ℕ) (rows : List ℕ) → length rows ≡ places → Rows m among rows 0
rows_begin m among rows e = record { below = omega arith; size = e; there = λ j l t. absurd (omega arith) }

pub rows_next : (m : List ℕ) (among : ℕ) (rows : List ℕ) (i : ℕ) → i < places → Rows m among rows i → (x : ℕ)
    → (is_among among i ≡ true → x ≡ word_of (provides_one m (plugin_at m i).dependencies) places 0) → Rows m among (set rows i x) (i + 1)
rows_next m among rows i h t x r = record {
  below = omega arith;
  size = length-set rows i x ∙ t.size;
  there = λ j l y. by_test (eqb j i)
      (λ k. let s = eqb-true j i k in rw s (get_or-set_same rows i x 0 (omega (arith, t.size)) ∙ r (ap (is_among among) (sym s) ∙ y)))
      (λ n. let s = eqb-false j i n in get_or-set_other rows i j x 0 s ∙ t.there j (omega arith) y);
}

pub rows_end_lem : (m : List ℕ) (among : ℕ) (rows : List ℕ) (i : ℕ) → places ≤ i → Rows m among rows i → RowsFor m among rows places
rows_end_lem m among rows i h t j l y = t.there j (omega arith) y
