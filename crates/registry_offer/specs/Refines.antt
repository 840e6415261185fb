-- Of dense words that say a built registry, the registry after an offer is the rule's, and the words are dense again.
use Rattle.std.specs.Prelude.{ℕ, ◌+◌, ◌*◌, ◌^◌, ◌<◌, ◌≤◌, ◌≡◌, true, false, not, List, [], eqb, length, Option, Some, None}
use Rattle.std.proofs.Common.{arith, sym, ap, ◌∙◌}
use Rattle.std.proofs.Math.Path.{refl, subst}
use Rattle.std.proofs.Math.Seq.{get_or-set_other}
use borrow.Author.Tests.{eq-eqb, ne_eqb, eqb-true, eqb-false, not-false}
use Rattle.rules.specs.Basics.{pick, is_some}
use Rattle.rules.specs.Holds.{provided, is_in}
use Rattle.rules_types.specs.declared.Port.{Port}
use Rattle.rules.specs.Refusals.{Refusal, Unknown}
use Rattle.rules.specs.Outcomes.{Outcome, refuses, stores, after, stored_at}
use Rattle.rules.specs.Ports.{pairs}
use Rattle.rules.specs.Registration.{repeats}
use Rattle.rules.specs.Values.{value_in, offer}
use Rattle.rules_laws.specs.Built.{Built}
use Rattle.rules_laws.specs.Laws.Tests.{by_test, neither, checked_elim}
use Rattle.memory.specs.Ways.{left_by}
use Rattle.memory.specs.Layout.{word, taken, id_at, deps_at, provs_at, prov_part, memory_words, place_words, places, id_word, first_row_word, dependencies_word}
use Rattle.memory.specs.Layout.{provisions_word, realms_word, mask_word, values_word, edition_word, domain_word, first_word, next_word}
use Rattle.rules.specs.Limits.{max_provision_keys}
use Rattle.memory.specs.View.{value_at, plugin_at, place_at, view}
use Rattle.memory.specs.Writes.{find_at}
use Rattle.memory.specs.Known.{at_below, at_taken, at_known, none_known}
use Rattle.memory_lists.specs.Listed.{provided_at}
use Rattle.memory_places.specs.Placed.{places_map, taken_in}
use Rattle.memory_values.specs.Values.{mask_at, mask_bit, masked, port_from, with_value}
use Rattle.memory_values.specs.Firsts.{port_below}
use Rattle.memory_values.specs.After.{none_free, set_length, set_taken, set_elsewhere, set_offered}
use Rattle.memory_rows.specs.Tiles.{share, sum_same}
use Rattle.memory_rows.specs.Dense.{start_word, used, Dense, Refines}
use Rattle.registry_offer.specs.Rules.{offer_checks, with_offered, offers}
use Rattle.registry_offer.specs.Words.{offered_to}
use Rattle.registry_offer.specs.Offers.{undeclared, value_is, put_there}

-- dependencies, provisions and the anchor
abbrev rows : List ℕ → ℕ → ℕ
rows m k = deps_at m k + provs_at m k + 1

-- A value is set at place i.
module _ (m : List ℕ) (i j v : ℕ) (d : Dense m) (h : i < places) (below : j < max_provision_keys) where
  abbrev m' : List ℕ
  m' = with_value m i j v

  -- only the mask and the values of the place change
  same : (n : ℕ) → (i * place_words + mask_word ≤ n → n < i * place_words + edition_word → ⊥) → word m' n ≡ word m n
  unfolding with_value
  same n a = by_test (eqb (mask_bit m i j) 1)
      (λ t. rw t)
      (λ f. rw f (get_or-set_other (masked m i j) (i * place_words + values_word + j) n v 0 (λ e. a (omega arith) (omega arith))
      ∙ get_or-set_other m (i * place_words + mask_word) n (mask_at m i + 2 ^ j) 0 (λ e. a (omega arith) (omega arith))))

  size_set : length m' ≡ memory_words
  size_set = set_length m i j v ∙ d.size

  taken_set : (k : ℕ) → taken m' k ≡ taken m k
  taken_set k = set_taken m i j v h d.size below k

  was : (k : ℕ) → taken m' k ≡ true → taken m k ≡ true
  was k t = sym (taken_set k) ∙ t

  id_set : (k : ℕ) → id_at m' k ≡ id_at m k
  id_set k = same (k * place_words + id_word) (λ a b. omega arith)

  start_set : (k : ℕ) → start_word m' k ≡ start_word m k
  start_set k = same (k * place_words + first_row_word) (λ a b. omega arith)

  dependencies_set : (k : ℕ) → word m' (k * place_words + dependencies_word) ≡ word m (k * place_words + dependencies_word)
  dependencies_set k = same (k * place_words + dependencies_word) (λ a b. omega arith)

  provisions_set : (k : ℕ) → word m' (k * place_words + provisions_word) ≡ word m (k * place_words + provisions_word)
  provisions_set k = same (k * place_words + provisions_word) (λ a b. omega arith)

  rows_set : (k : ℕ) → rows m' k ≡ rows m k
  rows_set k = rw (dependencies_set k, provisions_set k)

  used_set : used m' ≡ used m
  used_set = sum_same places (share (taken m') (rows m')) (share (taken m) (rows m)) 0
      (λ k a b. rw (taken_set k) (ap (λ (x : ℕ). pick (taken m k) x 0) (rows_set k)))

  value_dense : Dense m'
  value_dense = record {
    size = size_set;
    alone = λ k n s t e. d.alone k n (was k s) (was n t) (sym (id_set k) ∙ e ∙ id_set n);
    few_dependencies = λ k t. rw (dependencies_set k) (d.few_dependencies k (was k t));
    few_provisions = λ k t. rw (provisions_set k) (d.few_provisions k (was k t));
    few_realms = λ k t. rw (same (k * place_words + realms_word) (λ a b. omega arith)) (d.few_realms k (was k t));
    tiled = record {
      below = λ k u t. omega (arith, start_set k, rows_set k, used_set, d.tiled.below k u (was k t));
      apart = λ k n u g x s t o. omega (
        arith,
        start_set k,
        start_set n,
        rows_set k,
        d.tiled.apart k n u g x (was k s) (was n t) (omega (arith, start_set k, start_set n)),
      );
      total = refl;
    };
    room = omega (arith, used_set, d.room);
  }

  -- place by place, the plugin that has the port is stored
  module _ (q : Port) (there : taken m i ≡ true) (new : plugin_at m' i ≡ with_offered q v (plugin_at m i)) where
    here : place_at m' i ≡ stored_at (with_offered q v (plugin_at m i)) (place_at m i)
    unfolding place_at
    here = rw (taken_set i, there, new) (rw (eq-eqb (plugin_at m i).id (plugin_at m i).id refl))

    id_of_lem : (k : ℕ) → (plugin_at m k).id ≡ id_at m k
    unfolding plugin_at
    id_of_lem k = refl

    place_set : (k : ℕ) → k < places → place_at m' k ≡ stored_at (with_offered q v (plugin_at m i)) (place_at m k)
    unfolding place_at
    place_set k u = by_test (taken m k)
        (λ t. by_test (eqb i k)
        (λ y. subst (λ x. place_at m' x ≡ stored_at (with_offered q v (plugin_at m i)) (place_at m x)) (eqb-true i k y) here)
        (λ z. let n = eqb-false i k z in
        rw (taken_set k, t, set_elsewhere m i j v h d.size below k u (λ e. n (sym e)))
        (rw (ne_eqb (plugin_at m k).id (plugin_at m i).id (λ e. n (sym (d.alone k i t there (sym (id_of_lem k) ∙ e ∙ id_of_lem i))))))))
        (λ f. rw (taken_set k, f))

    value_view : view m' ≡ after (view m) (stores (with_offered q v (plugin_at m i)) [])
    unfolding view after
    value_view = λ x. record {
      domain = same domain_word (λ a b. omega arith) x;
      first = same first_word (λ a b. omega arith) x;
      next = same next_word (λ a b. omega arith) x;
      places = places_map (stored_at (with_offered q v (plugin_at m i))) m m' places 0 (λ k a b. place_set k b) x;
    }

module _ (m : List ℕ) (d : Dense m) (built : Built (view m)) (id : ℕ) (q : Port) (v : ℕ) where
  abbrev Leaves : Outcome → Type 0
  Leaves o = Refines m (offered_to m id q v o) o

  refused : (x : Refusal) (vs : List ℕ) → Leaves (refuses x vs)
  unfolding left_by after
  refused x vs = record { registry = refl; dense = d }

  module _ (i : ℕ) (e : find_at m id ≡ Some i) where
    -- a plugin's provisions are distinct
    distinct : repeats (pairs (prov_part m i)) ≡ false
    distinct =
        let p = plugin_at m i in
        let s = (built.members p (taken_in m i (at_taken m id i e))).shaped.apart in
        sym (ap repeats (provided_at m i)) ∙ (neither (is_in p.anchor (provided p)) (repeats (provided p)) s).1

    kept : (j : ℕ) → port_from 0 q (pairs (prov_part m i)) ≡ Some j → value_at m i j ≡ None → Leaves (stores (with_offered q v (plugin_at m i)) [])
    kept j t n =
        let b = port_below m i q j t in
        let h = at_below m id i e in
        let new = set_offered m i j v h d.size b (none_free m i j n) q distinct t in
        record {
          registry = ap view (put_there m i q j t id e v) ∙ value_view m i j v d h b q (at_taken m id i e) new;
          dense = rw (put_there m i q j t id e v) (value_dense m i j v d h b);
        }

    absent : (x : Option ℕ) → is_some x ≡ false → x ≡ None
    absent None z = refl
    absent (Some n) z = cc

    found_refines : Leaves (offers q v (plugin_at m i))
    found_refines = checked_elim Leaves (offer_checks q (plugin_at m i)) (stores (with_offered q v (plugin_at m i)) []) (λ x. refused x []) λ c.
        go c.1.0 c.1.1.0 (port_from 0 q (pairs (prov_part m i))) refl
      where
        go : not (is_in q (provided (plugin_at m i))) ≡ false → is_some (value_in q (plugin_at m i).provisions) ≡ false
            → (f : Option ℕ) → port_from 0 q (pairs (prov_part m i)) ≡ f → Leaves (stores (with_offered q v (plugin_at m i)) [])
        go a b None t =
            let z : true ≡ false = sym (not-false (is_in q (provided (plugin_at m i))) a) ∙ undeclared m i q t in
            let y : ◌≡◌ {A = ℕ} 0 1 = cc in
            absurd (omega arith)
        go a b (Some j) t = kept j t (sym (value_is m i q j t) ∙ absent (value_in q (plugin_at m i).provisions) b)

  offered_at : (p : Option ℕ) → find_at m id ≡ p → Leaves (offer (view m) id q v)
  unfolding offer
  offered_at None e = rw (none_known m id e (offers q v)) (refused Unknown [])
  offered_at (Some i) e = rw (at_known m id i e (offers q v)) (found_refines i e)

pub offer_refines : (m : List ℕ) → Dense m → Built (view m) → (id : ℕ) (q : Port) (v : ℕ)
    → Refines m (offered_to m id q v (offer (view m) id q v)) (offer (view m) id q v)
offer_refines m d built id q v = offered_at m d built id q v (find_at m id) refl
