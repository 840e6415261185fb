-- Which of some names a word is.
use Rattle.std.specs.Prelude.{ℕ, suc, List, [], ◌∷◌}
use Rattle.rules.specs.Basics.{pick, same_numbers}

-- A word's place among names: 0 for the first, and their count where it is none of them.
unfoldable pub place_among : List ℕ → List (List ℕ) → ℕ
place_among w [] = 0
place_among w (n ∷ ns) = pick (same_numbers w n) 0 (suc (place_among w ns))
