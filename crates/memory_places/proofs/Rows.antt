-- The rows in use, place by place.
use Prim.Native.Nat.{ℕ, zero, suc, ◌+◌}
use Rattle.std.proofs.Common.{arith, ◌∙◌, length-take, length-drop}
use Rattle.std.specs.Prelude.{◌≡◌, List}
use Rattle.std.proofs.Math.Path.{refl}
use Rattle.std.proofs.Math.ListN.{length}
use Rattle.rules.specs.Holds.{held, rows_of, sum_rows, rows_in_use}
use Rattle.rules.specs.Ports.{pairs}
use Rattle.rules_laws.specs.Laws.Tests.{by_test}
use Rattle.rules_laws.specs.Laws.Pairs.{length_pairs}
use Rattle.memory_lists.specs.Listed.{valued_length}
use Rattle.memory.specs.Layout.{taken, deps_at, provs_at, dep_part, prov_part, memory_words, places}
use Rattle.memory.specs.View.{plugin_at, place_at, places_from, view}
use Rattle.memory_places.specs.Rows.{rows_at, rows_from}

module _ (m : List ℕ) (size : length m ≡ memory_words) where
  pub rows_of_lem : (i : ℕ) → rows_of (plugin_at m i) ≡ rows_at m i
  unfolding plugin_at
  rows_of_lem i =
      let d : length (pairs (dep_part m i)) ≡ deps_at m i = length_pairs (dep_part m i) ∙ simp (length-take, length-drop) (omega arith) in
      let v : length (pairs (prov_part m i)) ≡ provs_at m i = length_pairs (prov_part m i) ∙ simp (length-take, length-drop) (omega arith) in
      rw (valued_length m i 0 (pairs (prov_part m i)), d, v)

  sum_from : (n i : ℕ) → sum_rows (held (places_from n m i)) ≡ rows_from n m i
  unfolding rows_from places_from place_at
  sum_from zero i = refl
  sum_from (suc n) i =
      let r = sum_from n (i + 1) in
      by_test (taken m i) (λ t. rw t (rw (rows_of_lem i, r))) (λ f. rw f (omega arith))

  pub rows_view : rows_in_use (view m) ≡ rows_from places m 0
  unfolding rows_in_use view
  rows_view = sum_from places 0
