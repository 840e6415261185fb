-- What holds once some plugins of a text are written: at the start, and with one plugin more.
use Rattle.std.specs.Prelude.{ℕ, suc, ◌+◌, ◌≤◌, ◌<◌, ◌≡◌, true, ◌≢◌, ◌⊎◌, Some}
use native.Mathlib.Omega.{arith}
use Rattle.std.proofs.Math.Path.{refl, sym, ap}
use Rattle.std.proofs.Common.{◌∙◌, subst, inl, inr, ⊎_elim, length-append}
use mathlib.Core.List.{List, [], ◌∷◌, ◌++◌}
use Rattle.std.proofs.Math.ListN.{length}
use Rattle.std.proofs.lemmas.List.{length-replicate}
use Rattle.rules.specs.Conditions.{lists_short}
use Rattle.rules.specs.Holds.{Plugin, Registry, plugins, rows_of, sum_rows, rows_in_use}
use Rattle.rules.specs.Limits.{max_plugins, max_rows}
use Rattle.rules.specs.Load.{in_places}
use Rattle.rules.specs.Outcomes.{with_places, at_lowest_free}
use Rattle.rules.specs.Text.{Said}
use Rattle.rules_laws.specs.Laws.Members.{In}
use Rattle.rules_laws.specs.Laws.Placed.{held_placed, placed_more}
use Rattle.memory.specs.Layout.{taken, id_at, memory_words, places}
use Rattle.memory.specs.View.{plugin_at, view}
use Rattle.memory_places.specs.Changes.{free_at}
use Rattle.memory_places.specs.Placed.{taken_in}
use Rattle.memory_rows.specs.Dense.{used, Dense, used_is}
use Rattle.memory.specs.Writes.{opened_with}
use Rattle.memory_rows.specs.Opened.{opened_view, opened_dense}
use Rattle.memory_load.specs.Loading.{loaded_plugin, loaded_into, zeros, words_of}
use Rattle.memory_load.specs.Places.{free_placed}
use Rattle.memory_load.specs.Step.{loaded_view, loaded_dense}

pub sum_append : (ps qs : List Plugin) → sum_rows (ps ++ qs) ≡ sum_rows ps + sum_rows qs
sum_append [] qs = omega arith
sum_append (p ∷ ps) qs = omega (arith, sum_append ps qs)

-- Plugins one behind the other, and then one more.
pub loaded_snoc : (m : List ℕ) (i start next : ℕ) (ps : List Plugin) (p : Plugin)
    → loaded_into m i start next (ps ++ p ∷ []) ≡ loaded_plugin (loaded_into m i start next ps) (i + length ps) (start + sum_rows ps) next p
unfolding loaded_into
loaded_snoc m i start next [] p =
    let a : i + 0 ≡ i = omega arith in
    let b : start + 0 ≡ start = omega arith in
    rw (a, b)
loaded_snoc m i start next (q ∷ ps) p =
    let a : i + suc (length ps) ≡ i + 1 + length ps = omega arith in
    let b : start + (rows_of q + sum_rows ps) ≡ start + rows_of q + sum_rows ps = omega arith in
    rw (a, b) (loaded_snoc (loaded_plugin m i start next q) (i + 1) (start + rows_of q) next ps p)

-- These plugins are written, in a memory of zeros under this header, and every id is below a number.
pub record SoFar (domain first next from : ℕ) (done : List Plugin) (m : List ℕ) : Type 0 where
  pub words : m ≡ loaded_into (opened_with zeros domain first next) 0 0 next done
  pub dense : Dense m
  pub registry : view m ≡ in_places (record { domain = domain; first = first; next = next; plugins = done })
  pub few : length done ≤ max_plugins
  pub lower : (q : Plugin) → In q done → q.id < from
  pub free : length done < max_plugins → free_at m ≡ Some (length done)
  pub rows : used m ≡ sum_rows done

zeros_size : length zeros ≡ memory_words
unfolding zeros
zeros_size = length-replicate {A = ℕ} memory_words 0

-- one behind a list
in_snoc : (l : List Plugin) (a q : Plugin) → In q (l ++ a ∷ []) → In q l ⊎ (a ≡ q)
in_snoc [] a q (inr h) = elim h [ ]
in_snoc [] a q (inl e) = inr e
in_snoc (b ∷ l) a q (inl e) = inl (inl e)
in_snoc (b ∷ l) a q (inr i) = ⊎_elim (λ j. inl (inr j)) inr (in_snoc l a q i)

module _ (domain first next : ℕ) where
  abbrev said : List Plugin → Said
  said ps = record { domain = domain; first = first; next = next; plugins = ps }

  -- What the registry says of the words: which place is free, who stands in the others, and how many rows are in use.
  module _ (m : List ℕ) (ps : List Plugin) (few : length ps ≤ max_plugins) (e : view m ≡ in_places (said ps)) where
    free_is : length ps < max_plugins → free_at m ≡ Some (length ps)
    unfolding free_at view
    free_is l =
        let s : 0 + length ps ≡ length ps = omega arith in
        free_placed m places 0 ps (ap (λ (r : Registry). r.places) e) l ∙ ap Some s

    held_is : plugins (view m) ≡ ps
    held_is = ap plugins e ∙ held_placed max_plugins ps few

    stands : (j : ℕ) → taken m j ≡ true → In (plugin_at m j) ps
    stands j t = subst (In (plugin_at m j)) held_is (taken_in m j t)

    rows_are : length m ≡ memory_words → used m ≡ sum_rows ps
    unfolding rows_in_use
    rows_are size = sym (used_is m size) ∙ ap sum_rows held_is

    so_far : {from : ℕ} → m ≡ loaded_into (opened_with zeros domain first next) 0 0 next ps → Dense m → ((q : Plugin) → In q ps → q.id < from)
        → SoFar domain first next from ps m
    so_far words dense lower = record {
      words = words;
      dense = dense;
      registry = e;
      few = few;
      lower = lower;
      free = free_is;
      rows = rows_are dense.size;
    }

  -- no plugin yet
  pub so_far_start : SoFar domain first next first [] (opened_with zeros domain first next)
  unfolding loaded_into
  so_far_start =
      so_far (opened_with zeros domain first next) [] (omega arith) (opened_view zeros domain first next zeros_size) refl
      (opened_dense zeros domain first next zeros_size) (λ q i. absurd i)

  -- one plugin more
  module _ {from : ℕ} {done : List Plugin} {m : List ℕ} (f : SoFar domain first next from done m) (p : Plugin) (rises : from ≤ p.id)
      (place : length done < max_plugins) (short : lists_short p ≡ true)
      (room : sum_rows done + rows_of p ≤ max_rows) where
    abbrev m' : ℕ → List ℕ
    m' start = loaded_plugin m (length done) start next p

    fits : used m + rows_of p ≤ max_rows
    fits = omega (arith, f.rows)

    new : (j : ℕ) → taken m j ≡ true → id_at m j ≢ p.id
    unfolding plugin_at
    new j t e = omega (arith, f.lower (plugin_at m j) (stands m done f.few f.registry j t))

    more_dense : Dense (m' (sum_rows done))
    more_dense = subst (λ s. Dense (m' s)) f.rows (loaded_dense m (length done) next p f.dense (f.free place) short fits new)

    more_view : view (m' (sum_rows done)) ≡ in_places (said (done ++ p ∷ []))
    more_view =
        sym (ap (λ s. view (m' s)) f.rows)
        ∙ loaded_view m (length done) next p f.dense (f.free place) short fits new
        ∙ ap (λ r. with_places r next (at_lowest_free p r.places)) f.registry
        ∙ ap (λ ps. record { domain = domain; first = first; next = next; places = ps }) (placed_more max_plugins done p place)

    more_lower : (q : Plugin) → In q (done ++ p ∷ []) → q.id < p.id + 1
    more_lower q i = ⊎_elim (λ j. omega (arith, f.lower q j)) (λ e. omega (arith, ap (λ (x : Plugin). x.id) e)) (in_snoc done p q i)

    more_words : m' (sum_rows done) ≡ loaded_into (opened_with zeros domain first next) 0 0 next (done ++ p ∷ [])
    more_words =
        let a : 0 + length done ≡ length done = omega arith in
        let b : 0 + sum_rows done ≡ sum_rows done = omega arith in
        ap (λ w. loaded_plugin w (length done) (sum_rows done) next p) f.words
        ∙ sym (rw (a, b) at (loaded_snoc (opened_with zeros domain first next) 0 0 next done p))

    pub so_far_next : SoFar domain first next (p.id + 1) (done ++ p ∷ []) (loaded_plugin m (length done) (sum_rows done) next p)
    so_far_next =
        so_far (m' (sum_rows done)) (done ++ p ∷ []) (omega (arith, length-append done (p ∷ []))) more_view more_words more_dense more_lower

  -- The words are those of the registry.
  pub so_far_words : {from : ℕ} {done : List Plugin} {m : List ℕ} → SoFar domain first next from done m
      → m ≡ words_of (in_places (record { domain = domain; first = first; next = next; plugins = done }))
  unfolding words_of
  so_far_words {from} {done} f = f.words ∙ ap (loaded_into (opened_with zeros domain first next) 0 0 next) (sym (held_placed max_plugins done f.few))
