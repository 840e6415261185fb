-- Of dense words, the registry after one plugin is changed where it stands is the rules', and the words are dense again.
use Rattle.std.specs.Prelude.{ℕ, ◌+◌, ◌*◌, ◌<◌, ◌≡◌, refl, ◌≢◌, true, List, [], eqb, length, Option, Some, None}
use Rattle.std.proofs.Common.{arith, sym, ap, ◌∙◌, subst, eq-eqb, ne_eqb, eqb-true}
use Rattle.std.proofs.Math.Path.{subst⁻¹}
use Rattle.std.proofs.lemmas.Option.{none-some, same_Some}
use Rattle.std.proofs.lemmas.Bool.{eqb-false}
use Rattle.rules.specs.Basics.{pick}
use Rattle.rules.specs.Holds.{Plugin, lookup}
use Rattle.rules.specs.Refusals.{Unknown}
use Rattle.rules.specs.Outcomes.{Outcome, tells, refuses, writes, stores, adds, removes, known, stored_at, after}
use Rattle.rules.specs.Steps.{Op, step}
use Rattle.rules_laws.specs.Kept.Plugins.{Alike}
use Rattle.rules_laws.specs.Kept.Reach.{life, reach, Within}
use Rattle.rules_laws.specs.Kept.Operations.{Lawful, lawful}
use Rattle.rules_laws.specs.Laws.Tests.{by_test}
use Rattle.memory.specs.Ways.{left_by}
use Rattle.memory.specs.Layout.{word, taken, id_at, place_words, places, domain_word, first_word, next_word, occupancy_word, id_word, first_row_word, dependencies_word}
use Rattle.memory.specs.Layout.{provisions_word, realms_word}
use Rattle.memory.specs.View.{plugin_at, place_at, view}
use Rattle.memory.specs.Writes.{find_at, put_life}
use Rattle.memory.specs.Frames.{with_life, OnlyLife, life_only}
use Rattle.memory.specs.Stores.{Alone}
use Rattle.memory.specs.Known.{at_lookup, at_known, none_lookup, none_known, life_of, stored_life, stored_at_lem, stored_view}
use Rattle.memory.specs.declared.Life.{Life}
use Rattle.memory_places.specs.Placed.{places_map, taken_place, free_place_lem}
use Rattle.memory_places.specs.Rows.{rows_at}
use Rattle.memory_rows.specs.Tiles.{share, sum_same}
use Rattle.memory_rows.specs.Dense.{start_word, used, Dense, Refines}

-- What dense words say is in the occupancy word and, of each place, in its id, first row and counts.
module _ (m m' : List ℕ) (d : Dense m) (size : length m' ≡ length m) (header : word m' occupancy_word ≡ word m occupancy_word)
    (id : (j : ℕ) → id_at m' j ≡ id_at m j) (start : (j : ℕ) → start_word m' j ≡ start_word m j)
    (dependencies : (j : ℕ) → word m' (j * place_words + dependencies_word) ≡ word m (j * place_words + dependencies_word))
    (provisions : (j : ℕ) → word m' (j * place_words + provisions_word) ≡ word m (j * place_words + provisions_word))
    (realms : (j : ℕ) → word m' (j * place_words + realms_word) ≡ word m (j * place_words + realms_word)) where
  taken_same : (j : ℕ) → taken m' j ≡ taken m j
  unfolding taken
  taken_same j = rw header

  was : (j : ℕ) → taken m' j ≡ true → taken m j ≡ true
  was j t = sym (taken_same j) ∙ t

  rows_same : (j : ℕ) → rows_at m' j ≡ rows_at m j
  rows_same j = rw (dependencies j, provisions j)

  used_same : used m' ≡ used m
  used_same = sum_same places (share (taken m') (rows_at m')) (share (taken m) (rows_at m)) 0
      (λ j a b. rw (taken_same j) (ap (λ (x : ℕ). pick (taken m j) x 0) (rows_same j)))

  pub same_dense : Dense m'
  same_dense = record {
    size = size ∙ d.size;
    alone = λ j k s t e. d.alone j k (was j s) (was k t) (sym (id j) ∙ e ∙ id k);
    few_dependencies = λ j t. rw (dependencies j) (d.few_dependencies j (was j t));
    few_provisions = λ j t. rw (provisions j) (d.few_provisions j (was j t));
    few_realms = λ j t. rw (realms j) (d.few_realms j (was j t));
    tiled = record {
      below = λ j h t. omega (arith, start j, rows_same j, used_same, d.tiled.below j h (was j t));
      apart = λ j k h g n s t o. omega (arith, start j, start k, rows_same j, d.tiled.apart j k h g n (was j s) (was k t) (omega (arith, start j, start k)));
      total = refl;
    };
    room = omega (arith, used_same, d.room);
  }

pub only_dense : (m m' : List ℕ) (i : ℕ) → OnlyLife m m' i → Dense m → Dense m'
only_dense m m' i o d = same_dense m m' d o.size (o.apart occupancy_word (λ a b. omega arith))
    (λ j. o.apart (j * place_words + id_word) (λ a b. omega arith))
    (λ j. o.apart (j * place_words + first_row_word) (λ a b. omega arith))
    (λ j. o.apart (j * place_words + dependencies_word) (λ a b. omega arith))
    (λ j. o.apart (j * place_words + provisions_word) (λ a b. omega arith))
    (λ j. o.apart (j * place_words + realms_word) (λ a b. omega arith))

pub life_dense : (m : List ℕ) (i : ℕ) (l : Life) → Dense m → Dense (put_life m i l)
life_dense m i l d = only_dense m (put_life m i l) i (life_only m i l) d

-- One taken place reads as another plugin of the same id, all else as before: that plugin is stored.
module _ (m m' : List ℕ) (i : ℕ) (alone : Alone m) (there : taken m i ≡ true)
    (zero : word m' domain_word ≡ word m domain_word) (one : word m' first_word ≡ word m first_word) (two : word m' next_word ≡ word m next_word)
    (kept : (j : ℕ) → taken m' j ≡ taken m j) (same : (plugin_at m' i).id ≡ (plugin_at m i).id)
    (others : (j : ℕ) → j < places → j ≢ i → plugin_at m' j ≡ plugin_at m j) where
  here : place_at m' i ≡ stored_at (plugin_at m' i) (place_at m i)
  here = rw (taken_place m' i (kept i ∙ there), taken_place m i there) (rw (eq-eqb _ _ (sym same)))

  apart : (j : ℕ) → taken m j ≡ true → j ≢ i → (plugin_at m j).id ≢ (plugin_at m' i).id
  unfolding plugin_at
  apart j t n e = n (alone j i t there (e ∙ same))

  one_place : (j : ℕ) → j < places → place_at m' j ≡ stored_at (plugin_at m' i) (place_at m j)
  one_place j h = by_test (eqb i j)
      (λ y. subst (λ x. place_at m' x ≡ stored_at (plugin_at m' i) (place_at m x)) (eqb-true i j y) here)
      (λ d. let n : j ≢ i = λ e. eqb-false i j d (sym e) in
      by_test (taken m j)
      (λ t. rw (taken_place m' j (kept j ∙ t), taken_place m j t, others j h n) (rw (ne_eqb _ _ (apart j t n))))
      (λ f. rw (free_place_lem m' j (kept j ∙ f), free_place_lem m j f)))

  pub changed_view : (vs : List ℕ) → view m' ≡ after (view m) (stores (plugin_at m' i) vs)
  unfolding view after
  changed_view vs = λ x. record {
    domain = zero x;
    first = one x;
    next = two x;
    places = places_map (stored_at (plugin_at m' i)) m m' places 0 (λ j a b. one_place j b) x;
  }

-- An operation on the plugin of an id: the words have it, or they don't.
pub known_elim : (m : List ℕ) (P : Outcome → Type 0) (id : ℕ) (f : Plugin → Outcome) → P (refuses Unknown [])
    → ((i : ℕ) → find_at m id ≡ Some i → P (f (plugin_at m i))) → P (known (view m) id f)
known_elim m P id f a b = go (find_at m id) refl
  where
    go : (p : Option ℕ) → find_at m id ≡ p → P (known (view m) id f)
    go None e = subst⁻¹ P (none_known m id e f) a
    go (Some i) e = subst⁻¹ P (at_known m id i e f) (b i e)

-- what registration fixed and the values stay: the plugin has another life, no more
other_life : (p q : Plugin) → Alike p q → q.provisions ≡ p.provisions → q ≡ with_life p (life_of q)
other_life p q a v = λ x. record {
  id = a.id x;
  parent = a.parent x;
  anchor = a.anchor x;
  realms = a.realms x;
  dependencies = a.dependencies x;
  provisions = v x;
  revision = q.revision;
  payload = q.payload;
  phase = q.phase;
  retired = q.retired;
  generation = q.generation;
  root = q.root;
}

module _ (m : List ℕ) (d : Dense m) where
  abbrev Stored : Outcome → Type 0
  Stored o = Refines m (stored_life m o) o

  stored_life_lem : (id i : ℕ) → find_at m id ≡ Some i → (l : Life) (vs : List ℕ) → Stored (stores (with_life (plugin_at m i) l) vs)
  stored_life_lem id i e l vs = record {
    registry = stored_view m d.size d.alone id i e l vs;
    dense = rw (stored_at_lem m id i e l vs) (life_dense m i l d);
  }

  -- a registered plugin with another life
  stored_alike : (p q : Plugin) (vs : List ℕ) → lookup (view m) q.id ≡ Some p → Alike p q → q.provisions ≡ p.provisions → Stored (stores q vs)
  stored_alike p q vs e a v = go (find_at m q.id) refl
    where
      go : (x : Option ℕ) → find_at m q.id ≡ x → Stored (stores q vs)
      go None f = absurd (none-some p (sym (none_lookup m q.id f) ∙ e))
      go (Some i) f =
          let s : p ≡ plugin_at m i = same_Some p (plugin_at m i) (sym e ∙ at_lookup m q.id i f) in
          subst⁻¹ (λ x. Stored (stores x vs)) (other_life p q a v ∙ ap (λ x. with_life x (life_of q)) s) (stored_life_lem q.id i f (life_of q) vs)

  -- Whatever operation stores a life and nothing else.
  pub life_refines : (o : Op) → reach o ≡ life → Refines m (stored_life m (step (view m) o)) (step (view m) o)
  unfolding Lawful left_by after
  life_refines o e = go (step (view m) o) (lawful (view m) o)
    where
      go : (u : Outcome) → Lawful (view m) o u → Stored u
      go (tells a) w = record { registry = refl; dense = d }
      go (writes place l vs) w = record { registry = refl; dense = d }
      go (stores q vs) w = stored_alike w.0 q vs w.2 w.3.alike (subst (λ x. Within x w.0 q) e w.4)
      go (adds q vs) w = absurd (subst (λ x. Within x q q) (sym e ∙ w.5) refl)
      go (removes id vs) w = absurd (subst (λ x. Within x w.0 w.0) (sym e ∙ w.4) refl)
