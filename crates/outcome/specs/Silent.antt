-- A promise that is silent on its answer, or on a memory that is lent to it, allows more than one outcome.
use Rattle.std.proofs.Common.{ap, suc-ne-zero}
use Rattle.std.specs.Prelude.{List, [], ◌∷◌, ℕ, length}
use Rattle.std.specs.Borrow.{Bor, MutBor}
use Rattle.memory.specs.contracts as memory
use Rattle.memory_places.specs.contracts as memory_places
use Rattle.outcome.specs.One.{One}

abbrev nothing : Bor (List ℕ)
nothing = record { ref_ptr = (0, 0); now = [] }

abbrev nothing_lent : MutBor (List ℕ)
nothing_lent = record { ref_ptr = (0, 0); ghost_name = 0; now = [] }

pub silent_on_answer : One memory.domain.ended (λ κs a r e. Unit) → ⊥
silent_on_answer one = suc-ne-zero 0 (one ([], tt) (nothing, tt) 1 0 (tt, tt) (tt, tt) tt tt)

pub silent_on_memory : One memory_places.vacate.ended (λ κs a r e. Unit) → ⊥
silent_on_memory one = suc-ne-zero 0 (ap length (one ([], tt) (nothing_lent, (0, tt)) tt tt (0 ∷ [], (tt, tt)) ([], (tt, tt)) tt tt).1)
