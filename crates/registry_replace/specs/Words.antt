-- The words after a replacement.
use Rattle.std.specs.Prelude.{ℕ, ◌≡◌, refl, List, length, Option, Some, None}
use Rattle.rules.specs.Holds.{Plugin}
use Rattle.rules.specs.Outcomes.{Outcome, stores}
use Rattle.memory.specs.View.{plugin_at}
use Rattle.memory.specs.Writes.{find_at, renewed_at}
use Rattle.memory.specs.Ways.{Way, left_by, by_storing, Sized, storing_sized}
use Rattle.memory.specs.Frames.{with_life, renewed_only}
use Rattle.memory.specs.Known.{at_id}
use Rattle.memory.specs.declared.Life.{Life}

-- the revision and the payload of a place, and no other word
abbrev pub renewed_to : List ℕ → Option ℕ → Plugin → List ℕ
renewed_to m (Some i) q = renewed_at m i q.revision q.payload
renewed_to m None q = m

abbrev pub replacing : Way
replacing = by_storing (λ m q. renewed_to m (find_at m q.id) q)

abbrev pub replaced_in : List ℕ → Outcome → List ℕ
replaced_in = left_by replacing

-- On any words, there are as many afterwards.
pub replaced_sized : Sized replacing
replaced_sized = storing_sized _ λ m q. at m q (find_at m q.id)
  where
    at : (m : List ℕ) (q : Plugin) (p : Option ℕ) → length (renewed_to m p q) ≡ length m
    at m q None = refl
    at m q (Some i) = (renewed_only m i q.revision q.payload).size

pub replaced_at : (m : List ℕ) (id i : ℕ) → find_at m id ≡ Some i → (l : Life) (vs : List ℕ)
    → replaced_in m (stores (with_life (plugin_at m i) l) vs) ≡ renewed_at m i l.revision l.payload
unfolding left_by
replaced_at m id i e l vs = rw (at_id m id i e, e)
