-- The words after a finish.
use Rattle.std.specs.Prelude.{ℕ, ◌+◌, ◌*◌, ◌≡◌, refl, List, length, set, Option, Some, None}
use Rattle.std.proofs.Common.{◌∙◌, length-set}
use Rattle.rules.specs.Holds.{Plugin}
use Rattle.rules.specs.Outcomes.{Outcome}
use Rattle.memory.specs.Writes.{find_at, put_life}
use Rattle.memory.specs.Ways.{Way, left_by, by_storing, Sized, storing_sized}
use Rattle.memory.specs.Frames.{life_length}
use Rattle.memory.specs.Known.{life_of}
use Rattle.memory.specs.declared.Life.{Life}
use Rattle.memory.specs.Layout.{place_words, mask_word}

-- a life stored and no value left
abbrev pub emptied : List ℕ → Option ℕ → Life → List ℕ
emptied m (Some i) l = set (put_life m i l) (i * place_words + mask_word) 0
emptied m None l = m

-- The words after a finish.
abbrev pub finishing : Way
finishing = by_storing (λ m q. emptied m (find_at m q.id) (life_of q))

abbrev pub finished_to : List ℕ → Outcome → List ℕ
finished_to = left_by finishing

-- On any words, there are as many after a finish.
pub finished_sized : Sized finishing
finished_sized = storing_sized _ λ m q. at m q (find_at m q.id)
  where
    at : (m : List ℕ) (q : Plugin) (p : Option ℕ) → length (emptied m p (life_of q)) ≡ length m
    at m q None = refl
    at m q (Some i) = length-set (put_life m i (life_of q)) (i * place_words + mask_word) 0 ∙ life_length m i (life_of q)
