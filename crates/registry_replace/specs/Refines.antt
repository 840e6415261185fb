-- Of dense words, the registry after a replacement is the rules', and the words are dense again.
use Rattle.std.specs.Prelude.{ℕ, ◌+◌, ◌≡◌, refl, List, [], ◌∷◌, eqb, Option, Some, None}
use Rattle.std.proofs.Common.{ap, ◌∙◌}
use Rattle.rules.specs.Basics.{last}
use Rattle.rules.specs.Refusals.{Refusal, Unknown, Exhausted}
use Rattle.rules.specs.Outcomes.{Outcome, refuses, stores, after}
use Rattle.rules.specs.Replacement.{replace}
use Rattle.rules_laws.specs.Laws.Tests.{by_test}
use Rattle.memory.specs.Ways.{left_by}
use Rattle.memory.specs.View.{life_at, plugin_at, view}
use Rattle.memory.specs.Writes.{find_at, renewed_at}
use Rattle.memory.specs.Frames.{with_life, renewed_only}
use Rattle.memory.specs.Stores.{renewed_view}
use Rattle.memory.specs.Known.{at_below, at_taken}
use Rattle.memory_rows.specs.Dense.{Dense, Refines}
use Rattle.memory_rows.specs.Stored.{only_dense}
use Rattle.registry_replace.specs.Words.{replaced_in, replaced_at}
use Rattle.registry_replace.specs.Laws.{replaced_life, replace_none, replace_last, replace_stores}

module _ (m : List ℕ) (d : Dense m) where
  abbrev Left : Outcome → Type 0
  Left o = Refines m (replaced_in m o) o

  left_refused : (x : Refusal) (vs : List ℕ) → Left (refuses x vs)
  unfolding left_by after
  left_refused x vs = record { registry = refl; dense = d }

  left_replaced : (id i v : ℕ) → find_at m id ≡ Some i → (vs : List ℕ) → Left (stores (with_life (plugin_at m i) (replaced_life (life_at m i) v)) vs)
  left_replaced id i v e vs =
      let n = (life_at m i).revision + 1 in
      let s : replaced_in m (stores (with_life (plugin_at m i) (replaced_life (life_at m i) v)) vs) ≡ renewed_at m i n v = replaced_at m id i e _ vs in
      record {
        registry = ap view s ∙ renewed_view m i n v (at_below m id i e) d.size d.alone (at_taken m id i e) vs;
        dense = rw s (only_dense m (renewed_at m i n v) i (renewed_only m i n v) d);
      }

  pub replace_refines : (id v : ℕ) → Refines m (replaced_in m (replace (view m) id v)) (replace (view m) id v)
  replace_refines id v = go (find_at m id) refl
    where
      go : (p : Option ℕ) → find_at m id ≡ p → Left (replace (view m) id v)
      go None e = rw (replace_none m id v e) (left_refused Unknown (v ∷ []))
      go (Some i) e = by_test (eqb (life_at m i).revision last)
          (λ t. rw (replace_last m id v i e t) (left_refused Exhausted (v ∷ [])))
          (λ f. rw (replace_stores m id v i e f) (left_replaced id i v e ((life_at m i).payload ∷ [])))
