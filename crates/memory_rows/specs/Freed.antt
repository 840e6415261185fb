-- A freed place is a removal: of a dense memory, the registry afterwards is the rule's.
use Rattle.std.specs.Prelude.{ℕ, ◌+◌, ◌*◌, ◌-◌, ◌<◌, ◌≤◌, ◌≡◌, refl, true, ◌≢◌, List, eqb, length, Some, None}
use Rattle.std.proofs.Common.{arith, sym, ap, ◌∙◌, eqb-true}
use Rattle.std.proofs.lemmas.Bool.{eqb-false}
use Rattle.rules.specs.Outcomes.{removes, after}
use Rattle.rules_laws.specs.Laws.Tests.{by_test}
use Rattle.memory.specs.Layout.{word, taken, start_at, id_at, row_word, memory_words, place_words, places, rows_start, first_row_word, row_words, occupancy_word}
use Rattle.memory.specs.View.{place_at, view}
use Rattle.memory_places.specs.Changes.{vacated_at}
use Rattle.memory_places.specs.Rows.{rows_at}
use Rattle.memory_places.specs.Taken.{taken_below, vacated_length, vacated_word, vacated_here, vacated_others}
use Rattle.memory_places.specs.Placed.{taken_place, free_place_lem, places_freed}
use Rattle.memory_rows.specs.Moves.{closed_gap, lower_from, end_at, last_behind, rows_end, freed_place}
use Rattle.memory_rows.specs.declared.Last.{Last}
use Rattle.memory_rows.specs.Laws.{moved_length, moved_below, moved_within, lower_length, lower_other, lower_start_lem, last_all, last_high}
use Rattle.memory_rows.specs.Dense.{start_word, Dense, start_is}
use Rattle.memory_rows.specs.Removal.{Removes, removed_dense, removed_plugin}

module _ (m : List ℕ) (p : ℕ) (there : taken m p ≡ true) (d : Dense m) where
  abbrev S : ℕ
  S = start_word m p

  abbrev C : ℕ
  C = rows_at m p

  abbrev last : Last
  last = last_behind m p

  abbrev end : ℕ
  end = rows_end m p

  abbrev low : List ℕ
  low = lower_from places m (S + C) C 0

  abbrev gap : List ℕ
  gap = closed_gap low S C end

  abbrev freed : List ℕ
  freed = vacated_at gap p

  s_is : start_at m p ≡ S
  s_is = start_is m d p there

  freed_is : freed_place m p ≡ freed
  unfolding freed_place
  freed_is = rw there (rw s_is)

  -- the last plugin stands where it is told
  told : (taken m last.place ≡ true) × (last.start ≡ start_word m last.place)
  unfolding last_behind
  told = last_all m (end_at m p) (λ l. (taken m l.place ≡ true) × (l.start ≡ start_word m l.place)) (λ i t. (t, refl)) places 0
      (record { place = p; start = start_at m p }) (there, s_is)

  highest : (j : ℕ) → taken m j ≡ true → S + C ≤ start_word m j → start_word m j ≤ last.start
  unfolding last_behind
  highest j t h = last_high m (end_at m p) places 0 (record { place = p; start = start_at m p }) j (omega arith) (taken_below m j t) t (rw s_is h)

  -- rows stand apart, so those behind the gap end where the last ones do, at the latest
  within : (j : ℕ) → taken m j ≡ true → S + C ≤ start_word m j → start_word m j + rows_at m j ≤ end
  within j t h =
      let q = last.place in
      let e = start_is m d q told.0 in
      by_test (eqb j q)
      (λ y. let f : start_word m j + rows_at m j ≡ start_word m q + rows_at m q = ap (λ i. start_word m i + rows_at m i) (eqb-true j q y) in omega (arith, e))
      (λ n. let f = d.tiled.apart j q (taken_below m j t) (taken_below m q told.0) (eqb-false j q n) t told.0 (omega (arith, highest j t h, told.1)) in
      omega (arith, e))

  low_size : length low ≡ memory_words
  low_size = lower_length places m (S + C) C 0 ∙ d.size

  gap_size : length gap ≡ memory_words
  gap_size = moved_length ((end - (S + C)) * row_words) low (row_word S) (C * row_words) ∙ low_size

  -- a word that is no start, in front of the gap
  gap_word : (k : ℕ) → k < row_word S → ((j : ℕ) → j < places → k ≢ j * place_words + first_row_word) → word gap k ≡ word m k
  gap_word k a n =
      moved_below ((end - (S + C)) * row_words) low (row_word S) (C * row_words) k a ∙ lower_other places m (S + C) C 0 k (λ j b c. n j (omega arith))

  gap_taken : (j : ℕ) → taken gap j ≡ taken m j
  unfolding taken
  gap_taken j = rw (gap_word occupancy_word (omega arith) (λ i b. omega arith))

  freed_removes : Removes m freed p
  freed_removes = record {
    size = vacated_length gap p ∙ gap_size ∙ sym d.size;
    gone = vacated_here gap p gap_size (gap_taken p ∙ there);
    kept = λ j n. vacated_others gap p gap_size (gap_taken p ∙ there) j n ∙ gap_taken j;
    words = λ j k a b c n. vacated_word gap p (j * place_words + k) (omega arith) ∙ gap_word (j * place_words + k) (omega arith) (λ i u e. n (omega arith));
    starts = λ j a. vacated_word gap p (j * place_words + first_row_word) (omega arith)
        ∙ moved_below ((end - (S + C)) * row_words) low (row_word S) (C * row_words) (j * place_words + first_row_word) (omega arith)
        ∙ lower_start_lem places m (S + C) C 0 j (omega arith) (omega arith) (omega (arith, d.size));
    above = λ k a. vacated_word gap p (rows_start + k) (omega arith) ∙ gap_word (rows_start + k) (omega arith) (λ i u. omega arith);
    below = λ j t a k l.
        let w = within j t a in
        let x = (start_word m j - (S + C)) * row_words + k in
        let e : row_word (start_word m j - C) + k ≡ row_word S + x = omega arith in
        let f : row_word S + x + C * row_words ≡ row_word (start_word m j) + k = omega arith in
        vacated_word gap p (row_word (start_word m j - C) + k) (omega arith)
        ∙ ap (word gap) e
        ∙ moved_within ((end - (S + C)) * row_words) low (row_word S) (C * row_words) x (omega arith) (omega (arith, low_size, s_is))
        ∙ ap (word low) f
        ∙ lower_other places m (S + C) C 0 (row_word (start_word m j) + k) (λ i u v. omega arith);
  }

  freed_place_lem : place_at freed p ≡ None
  freed_place_lem = free_place_lem freed p freed_removes.gone

  other_place : (j : ℕ) → j ≢ p → place_at freed j ≡ place_at m j
  other_place j n = by_test (taken m j)
      (λ t. taken_place freed j (freed_removes.kept j n ∙ t) ∙ ap Some (removed_plugin m freed p there d freed_removes j n t) ∙ sym (taken_place m j t))
      (λ f. free_place_lem freed j (freed_removes.kept j n ∙ f) ∙ sym (free_place_lem m j f))

  header : (k : ℕ) → k < 3 → word freed k ≡ word m k
  header k a = vacated_word gap p k (omega arith) ∙ gap_word k (omega arith) (λ i b. omega arith)

  -- The memory stays dense, and the registry loses the plugin and nothing else.
  pub freed_dense : Dense (freed_place m p)
  freed_dense = rw freed_is (removed_dense m freed p there d freed_removes)

  pub freed_view : (vs : List ℕ) → view (freed_place m p) ≡ after (view m) (removes (id_at m p) vs)
  unfolding view after
  freed_view vs = rw freed_is (λ x. record {
    domain = header 0 (omega arith) x;
    first = header 1 (omega arith) x;
    next = header 2 (omega arith) x;
    places = places_freed m freed p d.alone there freed_place_lem (λ j a n. other_place j n) x;
  })
