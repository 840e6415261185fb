-- What is checked of a found plugin's life, and of an id by the place where it is found.
use Rattle.std.specs.Prelude.{ℕ, not, List, [], ◌∷◌, eqb, Option, Some, None, Result, Ok, Err}
use Rattle.rules.specs.Answers.{verdict}
use Rattle.rules.specs.Basics.{pick, last}
use Rattle.rules.specs.Holds.{is_idle}
use Rattle.rules.specs.Refusals.{Refusal, Unknown, Retired, InvalidState, Exhausted, Repeated}
use Rattle.rules.specs.Outcomes.{Check, ◌⇒◌}
use Rattle.memory.specs.View.{life_at}
use Rattle.memory.specs.Writes.{find_at}
use Rattle.memory.specs.declared.Life.{Life}
use Rattle.memory_providers.specs.Words.{is_among}

-- 2, 3, 16
abbrev pub life_checks : Life → List Check
life_checks l = (l.retired ⇒ Retired) ∷ (not (is_idle l.phase) ⇒ InvalidState) ∷ (eqb l.generation.0 last ⇒ Exhausted) ∷ []

-- a verdict, with the place of what passes
abbrev pub passed_at : ℕ → Result Unit Refusal → Result ℕ Refusal
passed_at p (Ok x) = Ok p
passed_at p (Err why) = Err why

-- 1, 27 at a place that was found before, then those
abbrev pub checked_at : List ℕ → (seen : ℕ) → Option ℕ → Result ℕ Refusal
checked_at m seen None = Err Unknown
checked_at m seen (Some p) = pick (is_among seen p) (Err Repeated) (passed_at p (verdict (life_checks (life_at m p))))

unfoldable pub checked_by : List ℕ → (seen id : ℕ) → Result ℕ Refusal
checked_by m seen id = checked_at m seen (find_at m id)
