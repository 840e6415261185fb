-- What the engine's words say of a start order.
use Rattle.std.specs.Prelude.{ℕ, ◌≡◌, List, [], ◌∷◌}
use Rattle.rules.specs.Outcomes.{Accepted}
use Rattle.rules.specs.Steps.{Ask, answer_to}
use Rattle.rules.specs.Questions.{CheckOrder}
use Rattle.memory.specs.View.{view}

-- The engine's own checker answers yes to this order of this set.
abbrev pub SaysYes : (m set order : List ℕ) → Type 0
SaysYes m set order = answer_to (view m) (Ask (CheckOrder set order)) ≡ Accepted (1 ∷ [])
