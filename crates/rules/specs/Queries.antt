-- What can be asked of a plugin and of the registry. R's getters are queries by id, answering 1 if it isn't registered.
use Rattle.std.specs.Prelude.{ℕ, List, [], ◌∷◌, ltb, leb, Option, Some, None}
pub use Rattle.rules_types.specs.Kinds.{phase_number}
use Rattle.rules.specs.Basics.{pick, yes_no, one}
use Rattle.rules.specs.Holds.{Plugin, Registry, plugins, count, rows_in_use}
use Rattle.rules.specs.Holds.{Root, Unissued, Queued, Spent, edition_number, default_of}
use Rattle.rules.specs.Outcomes.{Outcome, answers, known}
use Rattle.rules.specs.Ports.{flat}

-- 0 Unissued, 1 Queued with revision and argument, 2 Spent
abbrev pub root_numbers : Root → List ℕ
root_numbers Unissued = 0 ∷ []
root_numbers (Queued v a) = 1 ∷ v ∷ a ∷ []
root_numbers Spent = 2 ∷ []

pub data Field : Type 0 where
  Parent Anchor EditionOf PhaseOf RetiredMark Generation Revision Payload RootOf : Field

abbrev pub field_of : Field → Plugin → List ℕ
field_of Parent p = one p.parent
field_of Anchor p = flat (p.anchor ∷ [])
field_of EditionOf p = edition_number p.realms.edition ∷ default_of p.realms.edition ∷ []
field_of PhaseOf p = phase_number p.phase ∷ []
field_of RetiredMark p = yes_no p.retired ∷ []
field_of Generation p = p.generation ∷ []
field_of Revision p = p.revision ∷ []
field_of Payload p = p.payload ∷ []
field_of RootOf p = root_numbers p.root

unfoldable pub ask_plugin : Registry → Field → ℕ → Outcome
ask_plugin r f id = known r id λ p. answers (field_of f p)

-- Rows in use, and what else the registry as a whole answers.
pub data Total : Type 0 where
  Domain FirstId NextId Registered RowsInUse : Total

abbrev pub total_of : Total → Registry → ℕ
total_of Domain r = r.domain
total_of FirstId r = r.first
total_of NextId r = r.next
total_of Registered r = count r
total_of RowsInUse r = rows_in_use r

abbrev pub ask_registry : Registry → Total → Outcome
ask_registry r t = answers (total_of t r ∷ [])

-- the lowest id at or above a number, or none
abbrev pub lower : ℕ → Option ℕ → Option ℕ
lower x None = Some x
lower x (Some y) = Some (pick (ltb x y) x y)

abbrev pub lowest_from : ℕ → List Plugin → Option ℕ
lowest_from n [] = None
lowest_from n (p ∷ ps) = pick (leb n p.id) (lower p.id (lowest_from n ps)) (lowest_from n ps)

-- The lowest registered id from a number on: asked from 0 and then from the id after, it goes through the plugins by rising id.
unfoldable pub id_from : Registry → ℕ → Outcome
id_from r n = answers (one (lowest_from n (plugins r)))
