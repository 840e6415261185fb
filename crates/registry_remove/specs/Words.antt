-- The words after a removal.
use Rattle.std.specs.Prelude.{ℕ, ◌≡◌, refl, List, length, Option, Some, None}
use Rattle.rules.specs.Outcomes.{Outcome}
use Rattle.memory.specs.Writes.{find_at}
use Rattle.memory.specs.Ways.{Way, left_by, by_removing, Sized, removing_sized}
use Rattle.memory_rows.specs.Moves.{freed_place}
use Rattle.memory_rows.specs.Laws.{freed_size}

abbrev pub freed_at_place : List ℕ → Option ℕ → List ℕ
freed_at_place m (Some i) = freed_place m i
freed_at_place m None = m

-- The words after a removal.
abbrev pub removing : Way
removing = by_removing (λ m id. freed_at_place m (find_at m id))

abbrev pub removed_from : List ℕ → Outcome → List ℕ
removed_from = left_by removing

-- On any words, there are as many afterwards.
pub removed_sized : Sized removing
removed_sized = removing_sized _ λ m id. at m (find_at m id)
  where
    at : (m : List ℕ) (p : Option ℕ) → length (freed_at_place m p) ≡ length m
    at m None = refl
    at m (Some i) = freed_size m i
