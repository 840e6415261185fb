-- A plugin's place and rows freed: what that does to the words, and that every other place reads as before.
use Rattle.std.specs.Prelude.{ℕ, ◌+◌, ◌*◌, ◌-◌, ◌<◌, ◌≤◌, ◌≡◌, true, false, ◌≢◌, List, length}
use Rattle.std.proofs.Common.{arith, sym, ◌∙◌}
use Rattle.std.proofs.Math.Path.{ap}
use Rattle.memory.specs.Layout.{word, taken, row_word, place_words, places, rows_start, id_word, revision_word, payload_word, phase_word, retired_word, generation_word}
use Rattle.memory.specs.Layout.{root_word, root_revision_word, root_argument_word, first_row_word, dependencies_word, provisions_word, place_end, row_words}
use Rattle.memory.specs.View.{life_at, decoded, plugin_at}
use Rattle.memory.specs.Frames.{Kept, with_life, plugin_kept}
use Rattle.memory.specs.Stores.{kept_frame}
use Rattle.memory_rows.specs.Moves.{lowered}
use Rattle.rules.specs.Basics.{pick}
use Rattle.memory_rows.specs.Tiles.{sum_but, share, Tiled, Side, side, tiled_removed}
use Rattle.memory_rows.specs.Tiles.Side.{before, behind}
use Rattle.memory_places.specs.Rows.{rows_at}
use Rattle.memory_places.specs.Taken.{taken_below}
use Rattle.memory_rows.specs.Dense.{start_word, used, Dense, start_is}

-- what a removal of place p does to the words
pub record Removes (m m' : List ℕ) (p : ℕ) : Type 0 where
  pub size : length m' ≡ length m
  pub gone : taken m' p ≡ false
  pub kept : (j : ℕ) → j ≢ p → taken m' j ≡ taken m j
  pub words : (j k : ℕ) → j < places → id_word ≤ k → k < place_end → k ≢ first_row_word → word m' (j * place_words + k) ≡ word m (j * place_words + k)
  pub starts : (j : ℕ) → j < places → start_word m' j ≡ lowered (start_word m j) (start_word m p + rows_at m p) (rows_at m p)
  pub above : (k : ℕ) → k < start_word m p * row_words → word m' (rows_start + k) ≡ word m (rows_start + k)
  pub below : (j : ℕ) → taken m j ≡ true → start_word m p + rows_at m p ≤ start_word m j → (k : ℕ) → k < rows_at m j * row_words
      → word m' (row_word (start_word m j - rows_at m p) + k) ≡ word m (row_word (start_word m j) + k)

module _ (m m' : List ℕ) (p : ℕ) (there : taken m p ≡ true) (d : Dense m) (r : Removes m m' p) where
  p_below : p < places
  p_below = taken_below m p there

  counts : (j : ℕ) → j < places → rows_at m' j ≡ rows_at m j
  counts j h = rw (
    r.words j dependencies_word h (omega arith) (omega arith) (omega arith),
    r.words j provisions_word h (omega arith) (omega arith) (omega arith),
  )

  some_rows : (i : ℕ) → 1 ≤ rows_at m i
  some_rows i = omega arith

  was : (j : ℕ) → taken m' j ≡ true → taken m j ≡ true
  was j t = sym (r.kept j (λ s. (
      let a : taken m' p ≡ true = sym (ap (taken m') s) ∙ t in
      let b = r.gone in
      let z : ◌≡◌ {A = ℕ} 0 1 = cc in
      omega arith))) ∙ t

  end : used m' ≡ used m - rows_at m p
  end =
      let a : share (taken m') (rows_at m') p ≡ 0 = rw r.gone in
      let b : share (taken m) (rows_at m) p ≡ rows_at m p = rw there in
      omega (
        arith,
        sum_but places (share (taken m') (rows_at m')) (share (taken m) (rows_at m)) p 0
            (λ j h n. rw (r.kept j n) (ap (λ (x : ℕ). pick (taken m j) x 0) (counts j (omega arith)))) (omega arith) (omega (arith, p_below)),
      )

  sides : (j : ℕ) → j < places → j ≢ p → taken m j ≡ true → Side (start_word m j) (rows_at m j) (start_word m p) (rows_at m p) (start_word m' j)
  sides = side (taken m) (taken m') (start_word m) (start_word m') (rows_at m) (rows_at m') (used m) (used m') p d.tiled p_below some_rows
      there r.gone r.kept counts r.starts end

  tiles : Tiled (taken m') (start_word m') (rows_at m') (used m')
  tiles = tiled_removed (taken m) (taken m') (start_word m) (start_word m') (rows_at m) (rows_at m') (used m) (used m') p d.tiled p_below some_rows
      there r.gone r.kept counts r.starts end

  pub removed_dense : Dense m'
  removed_dense = record {
    size = r.size ∙ d.size;
    alone = λ i j s t e. d.alone i j (was i s) (was j t)
        (sym (r.words i id_word (taken_below m' i s) (omega arith) (omega arith) (omega arith)) ∙ e
        ∙ r.words j id_word (taken_below m' j t) (omega arith) (omega arith) (omega arith));
    few_dependencies = λ i t. rw (r.words i 20 (taken_below m' i t) (omega arith) (omega arith) (omega arith)) (d.few_dependencies i (was i t));
    few_provisions = λ i t. rw (r.words i 21 (taken_below m' i t) (omega arith) (omega arith) (omega arith)) (d.few_provisions i (was i t));
    few_realms = λ i t. rw (r.words i 22 (taken_below m' i t) (omega arith) (omega arith) (omega arith)) (d.few_realms i (was i t));
    tiled = tiles;
    room = omega (arith, end, d.room);
  }

  -- the k-th row word of another place
  row_word_lem : (j : ℕ) → j < places → taken m j ≡ true → Side (start_word m j) (rows_at m j) (start_word m p) (rows_at m p) (start_word m' j)
      → (k : ℕ) → k < rows_at m j * row_words → word m' (start_word m' j * row_words + rows_start + k) ≡ word m (start_word m j * row_words + rows_start + k)
  row_word_lem j h t (before a e) k l =
      let f : start_word m' j * row_words + rows_start + k ≡ rows_start + (start_word m j * row_words + k) = omega arith in
      let g : start_word m j * row_words + rows_start + k ≡ rows_start + (start_word m j * row_words + k) = omega arith in
      ap (word m') f ∙ r.above (start_word m j * row_words + k) (omega arith) ∙ sym (ap (word m) g)
  row_word_lem j h t (behind a e) k l = ap (λ s. word m' (row_word s + k)) e ∙ r.below j t a k l

  life_same : (j : ℕ) → j < places → life_at m' j ≡ life_at m j
  unfolding life_at
  life_same j h = ap decoded (λ x. record {
    revision = r.words j revision_word h (omega arith) (omega arith) (omega arith) x;
    payload = r.words j payload_word h (omega arith) (omega arith) (omega arith) x;
    phase = r.words j phase_word h (omega arith) (omega arith) (omega arith) x;
    retired = r.words j retired_word h (omega arith) (omega arith) (omega arith) x;
    generation = r.words j generation_word h (omega arith) (omega arith) (omega arith) x;
    root = r.words j root_word h (omega arith) (omega arith) (omega arith) x;
    root_revision = r.words j root_revision_word h (omega arith) (omega arith) (omega arith) x;
    root_argument = r.words j root_argument_word h (omega arith) (omega arith) (omega arith) x;
  })

  pub removed_plugin : (j : ℕ) → j ≢ p → taken m j ≡ true → plugin_at m' j ≡ plugin_at m j
  unfolding plugin_at
  removed_plugin j n t =
      let h = taken_below m j t in
      let s = start_is m d j t in
      let s' = start_is m' removed_dense j (r.kept j n ∙ t) in
      let w : Kept m m' j = kept_frame m m' j h d.size (r.size ∙ d.size)
      (λ k a b. r.words j k h a (omega arith) (omega arith))
      (λ k a b. r.words j k h (omega arith) b (omega arith))
      (λ k u. rw (s, s') (row_word_lem j h t (sides j h n t) k (omega arith))) in
      plugin_kept m m' j w ∙ ap (with_life (plugin_at m j)) (life_same j h)
