-- The slot's operations by name, with the numbers behind it: `reject` and `cancel`; `pending`, `assigned` and `assign` of three.
use Rattle.std.specs.Prelude.{ℕ, List, [], ◌∷◌, Option, Some, None}
use Rattle.rules.specs.Basics.{pick, same_numbers}
use Rattle.rules.specs.Outcomes.{Accepted}
use Rattle.rules.specs.Retirement.{Identity}
use Rattle.rules.specs.Slot as rules
use Rattle.text_form.specs.Bytes.{bytes}

-- A new slot takes the old one's place.
abbrev pub new_slot : rules.Slot → rules.Decided
new_slot s = record { slot = s; answer = Accepted [] }

-- The operations without a number.
unfoldable pub with_none : rules.Slot → List ℕ → Option rules.Decided
with_none s name =
    pick (same_numbers name (bytes "reject")) (Some (rules.reject s)) (
    pick (same_numbers name (bytes "cancel")) (Some (rules.cancel s))
    None)

-- Those of three numbers, here a child's identity; the last of a pending slot's is its generation.
unfoldable pub with_three : rules.Slot → List ℕ → Identity → Option rules.Decided
with_three s name c =
    pick (same_numbers name (bytes "pending")) (Some (new_slot (rules.pending c.domain c.parent c.id))) (
    pick (same_numbers name (bytes "assigned")) (Some (new_slot (rules.assigned c))) (
    pick (same_numbers name (bytes "assign")) (Some (rules.assign s c))
    None))

-- What the slot comes to, or none where name and numbers are no operation of it.
unfoldable pub decided_by : rules.Slot → List ℕ → List ℕ → Option rules.Decided
decided_by s name [] = with_none s name
decided_by s name (a ∷ []) = None
decided_by s name (a ∷ b ∷ []) = None
decided_by s name (a ∷ b ∷ c ∷ []) = with_three s name (record { domain = a; parent = b; id = c })
decided_by s name (a ∷ b ∷ c ∷ d ∷ l) = None
