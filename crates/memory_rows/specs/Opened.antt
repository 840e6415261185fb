-- A memory with a header and no plugin: no place is taken, and the words are dense.
use Prim.Native.Nat.{ℕ, zero, suc, ◌+◌, ◌^◌, ◌<◌}
use Rattle.std.proofs.Common.{arith, ap, ◌∙◌}
use Rattle.std.proofs.Math.Nat.{zero-div}
use Rattle.std.specs.Prelude.{◌≡◌, true, false, List, [], ◌∷◌, ltb, length, get_or}
use Rattle.std.proofs.Math.Path.{refl}
use Rattle.std.proofs.Math.Bool.{and-false}
use Rattle.rules.specs.Load.{placed, in_places}
use Rattle.memory.specs.Layout.{word, occupancy, taken, memory_words, places}
use Rattle.memory.specs.View.{place_at, places_from, view}
use Rattle.memory.specs.Writes.{opened_with}
use Rattle.memory.specs.Frames.{puts_length, puts_same}
use Rattle.memory_places.specs.Rows.{rows_at}
use Rattle.memory_rows.specs.Tiles.{sum, share, sum_same}
use Rattle.memory_rows.specs.Dense.{used, Dense}

module _ (m : List ℕ) (domain first next : ℕ) (size : length m ≡ memory_words) where
  abbrev blank : List ℕ
  blank = opened_with m domain first next

  header : (k : ℕ) → k < 4 → word blank k ≡ get_or (domain ∷ first ∷ next ∷ 0 ∷ []) k 0
  header k h = let e : k ≡ 0 + (0 + k) = omega arith in ap (word blank) e ∙ puts_same (domain ∷ first ∷ next ∷ 0 ∷ []) m 0 0 k h (omega arith)

  none_taken : (i : ℕ) → taken blank i ≡ false
  unfolding taken
  none_taken i = let s : occupancy blank ≡ 0 = rw (header 3 (omega arith)) in rw (s, zero-div (2 ^ i)) (and-false (ltb i places))

  free : (i : ℕ) → taken blank i ≡ true → ⊥
  free i t =
      let f = none_taken i in
      let z : ◌≡◌ {A = ℕ} 0 1 = cc in
      omega arith

  all_free : (n i : ℕ) → places_from n blank i ≡ placed n []
  unfolding places_from place_at
  all_free zero i = refl
  all_free (suc n) i = let r = all_free n (i + 1) in rw (none_taken i, r)

  none_used : used blank ≡ 0
  unfolding sum
  none_used = sum_same places (share (taken blank) (rows_at blank)) (λ j. 0) 0 (λ j a b. rw (none_taken j))

  pub opened_view : view (opened_with m domain first next) ≡ in_places (record { domain = domain; first = first; next = next; plugins = [] })
  unfolding view
  opened_view = λ x. record {
    domain = header 0 (omega arith) x;
    first = header 1 (omega arith) x;
    next = header 2 (omega arith) x;
    places = all_free places 0 x;
  }

  pub opened_dense : Dense (opened_with m domain first next)
  opened_dense = record {
    size = puts_length (domain ∷ first ∷ next ∷ 0 ∷ []) m 0 0 ∙ size;
    alone = λ i j s t e. absurd (free i s);
    few_dependencies = λ i t. absurd (free i t);
    few_provisions = λ i t. absurd (free i t);
    few_realms = λ i t. absurd (free i t);
    tiled = record {
      below = λ i h t. absurd (free i t);
      apart = λ i j h g n s t o. absurd (free i s);
      total = refl;
    };
    room = omega (arith, none_used);
  }
