-- What places and runs come to: the words of a line in order, and the numbers that come first among them.
use Rattle.std.specs.Prelude.{ℕ, zero, suc, ◌+◌, ◌-◌, ◌≤◌, ◌<◌, ◌≡◌, refl, Bool, true, false, ◌⊎◌, eqb, take, Option, Some, None}
use Rattle.std.proofs.Math.Path.{ap}
use Rattle.std.proofs.Common.{◌∙◌, inl, inr, eq-zero-or-pos, le_refl, add-one, lt-ltb, le-ltb}
use mathlib.Core.List.{List, [], ◌∷◌, ◌++◌, append-nil, append_assoc}
use Rattle.std.proofs.Math.Logic.{⊎_elim}
use native.Mathlib.Omega.{arith}
use Rattle.std.proofs.Math.ListN.{length, drop, drop_of_length-le}
use Rattle.std.proofs.Math.Seq.{drop-drop}
use Rattle.rules.specs.Basics.{pick}
use Rattle.text_form.specs.Words.{number_of}
use Rattle.console_words.specs.Runs.{or_stop, run_from}
use Rattle.console_words.specs.Words.{space, spaces, word_length, next_word, bytes_of}

-- A word of these bytes before other words; no bytes are no word.
abbrev pub closed : List ℕ → List (List ℕ) → List (List ℕ)
closed [] ws = ws
closed (b ∷ w) ws = (b ∷ w) ∷ ws

-- The words of a line of which these bytes, no space among them, were read.
unfoldable pub words_after : List ℕ → List ℕ → List (List ℕ)
words_after w [] = closed w []
words_after w (b ∷ s) = pick (eqb b space) (closed w (words_after [] s)) (words_after (w ++ b ∷ []) s)

-- The words of a line, in order.
abbrev pub words : List ℕ → List (List ℕ)
words s = words_after [] s

past_spaces_lem : (s : List ℕ) → words s ≡ words (drop (spaces s) s)
unfolding words_after spaces
past_spaces_lem [] = refl
past_spaces_lem (b ∷ s) = go (eqb b space) refl (past_spaces_lem s)
  where
    go : (t : Bool) → eqb b space ≡ t → words s ≡ words (drop (spaces s) s) → words (b ∷ s) ≡ words (drop (spaces (b ∷ s)) (b ∷ s))
    go true h e = rw (h, add-one) e
    go false h e = rw h (rw h)

past_word : (w s : List ℕ) → words_after w s ≡ closed (w ++ take (word_length s) s) (words (drop (word_length s) s))
unfolding words_after word_length
past_word w [] = rw append-nil
past_word w (b ∷ s) = go (eqb b space) refl (past_word (w ++ b ∷ []) s)
  where
    go : (t : Bool) → eqb b space ≡ t → words_after (w ++ b ∷ []) s ≡ closed ((w ++ b ∷ []) ++ take (word_length s) s) (words (drop (word_length s) s))
        → words_after w (b ∷ s) ≡ closed (w ++ take (word_length (b ∷ s)) (b ∷ s)) (words (drop (word_length (b ∷ s)) (b ∷ s)))
    go true h e = rw (h, append-nil) (rw h)
    go false h e = rw (h, add-one) (e ∙ rw append_assoc)

-- Where no byte of a word follows the spaces, there is no word.
none_behind : (s : List ℕ) → word_length (drop (spaces s) s) ≡ 0 → words s ≡ []
unfolding words_after spaces word_length
none_behind [] e = refl
none_behind (b ∷ s) e = go (eqb b space) refl (none_behind s)
  where
    go : (t : Bool) → eqb b space ≡ t → (word_length (drop (spaces s) s) ≡ 0 → words s ≡ []) → words (b ∷ s) ≡ []
    go true h f = rw h (f (rw (h, add-one) at e))
    go false h f = absurd (omega (arith, rw h at (rw h at e)))

no_bytes : (s : List ℕ) → take (word_length s) s ≡ [] → word_length s ≡ 0
unfolding word_length
no_bytes [] e = refl
no_bytes (b ∷ s) e = go (eqb b space) refl
  where
    go : (t : Bool) → eqb b space ≡ t → word_length (b ∷ s) ≡ 0
    go true h = rw h
    go false h =
        let c : b ∷ take (word_length s) s ≡ [] = rw (h, add-one) at e in
        let z : ◌≡◌ {A = ℕ} 0 1 = cc in
        absurd (omega arith)

module _ (line : List ℕ) (from : ℕ) where
  within : (from ≤ length line) ⊎ (length line < from)
  within = ⊎_elim (λ (z : from - length line ≡ 0). inl (omega arith)) (λ (p : 0 < from - length line). inr (omega arith)) (eq-zero-or-pos (from - length line))

  -- The next word comes before the words behind it.
  pub next_of_words : words (drop from line) ≡ closed (bytes_of line (next_word line from)) (words (drop (next_word line from).stop line))
  unfolding next_word
  next_of_words =
      ⊎_elim
      (λ (h : from ≤ length line).
      let start = from + spaces (drop from line) in
      let k : start + word_length (drop start line) - start ≡ word_length (drop start line) = omega arith in
      rw (le-ltb (length line) from h, k)
      (past_spaces_lem (drop from line)
      ∙ ap words (drop-drop (spaces (drop from line)) from line)
      ∙ past_word [] (drop start line)
      ∙ ap (λ (t : List ℕ). closed (take (word_length (drop start line)) (drop start line)) (words t)) (drop-drop (word_length (drop start line)) start line)))
      (λ (h : length line < from).
      let k : length line - length line ≡ 0 = omega arith in
      let a : drop (length line) line ≡ [] = drop_of_length-le line (le_refl (length line)) in
      let o : length line ≤ from = omega arith in
      let b : drop from line ≡ [] = drop_of_length-le line o in
      rw (lt-ltb (length line) from h, k, a, b))
      within

  -- Where it has no bytes, there is none.
  pub no_next_word : bytes_of line (next_word line from) ≡ [] → words (drop from line) ≡ []
  unfolding next_word words_after
  no_next_word e =
      ⊎_elim
      (λ (h : from ≤ length line).
      let start = from + spaces (drop from line) in
      let k : start + word_length (drop start line) - start ≡ word_length (drop start line) = omega arith in
      let d = drop-drop (spaces (drop from line)) from line in
      none_behind (drop from line) (ap word_length d ∙ no_bytes (drop start line) (rw (le-ltb (length line) from h, k) at e)))
      (λ (h : length line < from).
      let o : length line ≤ from = omega arith in
      let b : drop from line ≡ [] = drop_of_length-le line o in
      rw b)
      within

abbrev pub or_nothing : Option ℕ → List ℕ → List ℕ
or_nothing None ns = []
or_nothing (Some n) ns = n ∷ ns

-- The numbers that come first among words.
abbrev pub leading : List (List ℕ) → List ℕ
leading [] = []
leading (w ∷ ws) = or_nothing (number_of w) (leading ws)

empty_word : number_of [] ≡ None
unfolding number_of
empty_word = refl

-- A run is the first numbers among the words from its place on, at most so many.
pub run_of_words : (k : ℕ) (line : List ℕ) (from : ℕ) → (run_from k line from).found ≡ take k (leading (words (drop from line)))
unfolding run_from
run_of_words zero line from = refl
run_of_words (suc k) line from = go (bytes_of line (next_word line from)) refl (run_of_words k line (next_word line from).stop)
  where
    behind : ℕ
    behind = (next_word line from).stop

    one : (n : Option ℕ) → (run_from k line behind).found ≡ take k (leading (words (drop behind line)))
        → (or_stop n (next_word line from).start (run_from k line behind)).found ≡ take (suc k) (or_nothing n (leading (words (drop behind line))))
    one None e = refl
    one (Some n) e = ap (λ (l : List ℕ). n ∷ l) e

    go : (w : List ℕ) → bytes_of line (next_word line from) ≡ w → (run_from k line behind).found ≡ take k (leading (words (drop behind line)))
        → (run_from (suc k) line from).found ≡ take (suc k) (leading (words (drop from line)))
    go [] h e = rw (no_next_word line from h, h, empty_word)
    go (b ∷ w) h e = rw (next_of_words line from, h) (one (number_of (b ∷ w)) e)
