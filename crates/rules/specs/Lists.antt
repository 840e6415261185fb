-- Document 01, "Lists".
use Rattle.std.specs.Prelude.{ℕ, ◌*◌, ◌-◌, ◌||◌, List, [], ◌∷◌, ltb, length}
use Rattle.rules.specs.Holds.{Port, Plugin, Registry, provided}
use Rattle.rules.specs.Refusals.{ShortBuffer}
use Rattle.rules.specs.Outcomes.{Outcome, writes, ◌⇒◌, checked, known}
use Rattle.rules.specs.Ports.{flat}

pub data Which : Type 0 where
  Dependencies Provisions RealmRows : Which

abbrev pub list_of : Which → Plugin → List Port
list_of Dependencies p = p.dependencies
list_of Provisions p = provided p
list_of RealmRows p = p.realms.rows

-- Listed from the place in the lent buffer that the caller names, as alternating numbers; answers the count.
-- 23 if the place is past the end or fewer than 2 × count numbers stand from it to the end.
unfoldable pub listing : List Port → ℕ → List ℕ → Outcome
listing ports place buffer =
    checked ((ltb (length buffer) place || ltb (length buffer - place) (2 * length ports) ⇒ ShortBuffer) ∷ [])
    (writes place (flat ports) (length ports ∷ []))

-- 1, then the listing.
unfoldable pub list : Registry → Which → ℕ → ℕ → List ℕ → Outcome
list r w id place buffer = known r id λ p. listing (list_of w p) place buffer
