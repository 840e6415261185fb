-- Document 01, "Retirement".
use Rattle.std.specs.Prelude.{ℕ, ◌≡◌, Bool, true, false, not, ◌&&◌, ◌||◌, List, [], ◌∷◌, eqb, ltb, leb, Option, Some, None}
use Rattle.rules.specs.Basics.{any, holds}
use Rattle.rules.specs.Holds.{Plugin, Registry, lookup, plugins, is_idle, with_retired}
use Rattle.rules.specs.Refusals.{Unknown, Retired, InvalidState, HasChildren}
use Rattle.rules.specs.Outcomes.{Outcome, answers, stores, removes, ◌⇒◌, checked, found, known}

-- By id: 1, 2; else the retired mark is set.
unfoldable pub retire : Registry → ℕ → Outcome
retire r id = known r id λ p. checked ((p.retired ⇒ Retired) ∷ []) (stores (with_retired true p) [])

passed : (mark : Bool) (u : Outcome) → mark ≡ false → checked ((mark ⇒ Retired) ∷ []) u ≡ u
unfolding checked
passed mark u h = rw h

-- A registered plugin that is not retired retires.
pub retires : (r : Registry) (id : ℕ) (p : Plugin) → lookup r id ≡ Some p → p.retired ≡ false → retire r id ≡ stores (with_retired true p) []
unfolding retire found
retires r id p e h = rw e (passed p.retired _ h)

-- A child identity.
pub record Identity : Type 0 where
  pub domain : ℕ
  pub parent : ℕ
  pub id : ℕ

abbrev pub is_child_of : ℕ → Plugin → Bool
is_child_of parent p = holds (eqb parent) p.parent

-- Not registered: accepted, nothing changes; parent differs or none: 3; then 2; else the mark.
abbrev pub retire_found : ℕ → Option Plugin → Outcome
retire_found parent None = answers []
retire_found parent (Some p) =
    checked ((not (is_child_of parent p) ⇒ InvalidState) ∷ (p.retired ⇒ Retired) ∷ []) (stores (with_retired true p) [])

-- By child identity: domain 3; id below first id or not below next id: 1.
unfoldable pub retire_child : Registry → Identity → Outcome
retire_child r c =
    checked
    ((not (eqb c.domain r.domain) ⇒ InvalidState)
    ∷ (ltb c.id r.first || leb r.next c.id ⇒ Unknown)
    ∷ [])
    (retire_found c.parent (lookup r c.id))

abbrev pub identity : ℕ → ℕ → Option ℕ → List ℕ
identity d id None = []
identity d id (Some parent) = d ∷ parent ∷ id ∷ []

-- Asking a plugin's child identity: 1, else the identity, or none without a parent.
unfoldable pub child_identity : Registry → ℕ → Outcome
child_identity r id = known r id λ p. answers (identity r.domain id p.parent)

-- Removal: 1, 3 unless Idle and retired, 18.
unfoldable pub remove : Registry → ℕ → Outcome
remove r id = known r id λ p.
    checked
    ((not (is_idle p.phase && p.retired) ⇒ InvalidState)
    ∷ (any (is_child_of id) (plugins r) ⇒ HasChildren)
    ∷ [])
    (removes id [])
