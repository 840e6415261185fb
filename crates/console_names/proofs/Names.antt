-- A word's place among names, one name at a time. Assumes nothing.
use Rattle.std.specs.Prelude.{Ok, Err}
use Prim.Native.Nat.{ℕ, suc, ◌+◌, ◌-◌, ◌≤◌, ◌<◌}
use mathlib.Core.Path.{◌≡◌, refl, sym, ap, ◌∙◌}
use mathlib.Core.Bool.{true, false}
use mathlib.Core.List.{List, [], ◌∷◌}
use native.Mathlib.Omega.{arith}
use lib.ListN.{length, drop, drop_of_length-le, length-drop}
use lib.Seq.{length-take-le}
use borrow.Author.Tests.{lt-ltb, le-ltb}
use Rattle.rules.specs.Basics.{same_numbers}
use Rattle.console_words.specs.Words.{spaces, next_word, bytes_of}
use Rattle.console_words.specs.declared.Span.{Span}
use Rattle.console_words.specs.Parted.{words, words_after, closed, next_of_words, no_next_word}
use Rattle.console_words.specs.Runs.{run_from, Gathered}
use Rattle.console_words.specs.declared.Run.{Run}
use Rattle.console_words.specs.Fronts.{fronted}
use Rattle.console_names.specs.Names.{place_among}
use Rattle.console_names.specs.Behind.{Numbered}

-- Behind the last byte there is no name.
pub past_names : (w names : List ℕ) (at : ℕ) → length names ≤ at → place_among w (words (drop at names)) ≡ 0
unfolding place_among words_after
past_names w names at h = rw (drop_of_length-le names h)

module _ (w names : List ℕ) (at : ℕ) (s : Span) (e : s ≡ next_word names at) where
  pub no_name : s.stop ≡ s.start → place_among w (words (drop at names)) ≡ 0
  unfolding place_among
  no_name h =
      let k : s.stop - s.start ≡ 0 = omega arith in
      let b : bytes_of names (next_word names at) ≡ [] = rw (← e, k) in
      rw (no_next_word names at b)

  module _ (o : s.start < s.stop) (h : s.stop ≤ length names) where
    one_name : words (drop at names) ≡ bytes_of names s ∷ words (drop s.stop names)
    one_name =
        go (bytes_of names s) refl (rw (← e) at (next_of_words names at))
      where
        long : length (bytes_of names s) ≡ s.stop - s.start
        long = length-take-le (s.stop - s.start) (drop s.start names) (rw (length-drop s.start names) (omega arith))

        go : (b : List ℕ) → bytes_of names s ≡ b → words (drop at names) ≡ closed b (words (drop s.stop names))
            → words (drop at names) ≡ b ∷ words (drop s.stop names)
        go [] d c =
            let z : 0 ≡ s.stop - s.start = sym (ap length d) ∙ long in
            absurd (omega arith)
        go (x ∷ b) d c = c

    pub this_name : same_numbers w (bytes_of names s) ≡ true → place_among w (words (drop at names)) ≡ 0
    unfolding place_among
    this_name t = rw (one_name, t)

    pub other_name : same_numbers w (bytes_of names s) ≡ false → place_among w (words (drop at names)) ≡ suc (place_among w (words (drop s.stop names)))
    unfolding place_among
    other_name t = rw (one_name, t)

-- A word does not begin before the place from which it was looked for.
pub not_before : (names : List ℕ) (at : ℕ) (s : Span) → s ≡ next_word names at → at ≤ length names → at ≤ s.start
unfolding next_word
not_before names at s e h =
    let d : s.start ≡ at + spaces (drop at names) = rw e (rw (le-ltb (length names) at h)) in
    omega arith

module _ (line : List ℕ) (from : ℕ) (before after : List ℕ) (run : Run) (g : Gathered line from before after run) where
  pub other_behind : run.stop < length line → Numbered line from before after (Err run.count)
  other_behind h =
      let b = lt-ltb (run_from 2048 line from).stop (length line) (rw g.stop at h) in
      record { count = rw (b, g.count); numbers = g.numbers; front = fronted _ run.count before after g.count g.numbers }

  pub none_behind : length line ≤ run.stop → Numbered line from before after (Ok run.count)
  none_behind h =
      let b = le-ltb (run_from 2048 line from).stop (length line) (rw g.stop at h) in
      record { count = rw (b, g.count); numbers = g.numbers; front = fronted _ run.count before after g.count g.numbers }
