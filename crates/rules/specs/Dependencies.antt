-- Document 01, "Dependency list", as document 02 [3] amends it: a private anchor is no dependency.
use Rattle.std.specs.Prelude.{ℕ, Bool, ◌||◌, List, [], ◌∷◌, ◌++◌, map, eqb}
use Rattle.rules.specs.Basics.{pick}
use Rattle.rules.specs.Holds.{Port, Realms, Registry, is_in}
use Rattle.rules.specs.Ports.{resolve, flat}
use Rattle.rules.specs.Outcomes.{Outcome, answers, known}

-- For each port q of the parent's list in order: q itself, then q's key resolved again.
abbrev pub candidates : Realms → List Port → List Port
candidates z [] = []
candidates z (q ∷ qs) = q ∷ resolve z q.key ∷ candidates z qs

-- The new plugin's own ports, in the order in which a candidate is compared with them: its resolved provisions, then its anchor.
abbrev pub own_ports : List Port → Port → List Port
own_ports provisions anchor = provisions ++ anchor ∷ []

-- Among the new plugin's own ports, or in the list so far.
abbrev pub skipped : List Port → List Port → Port → Bool
skipped own list q = is_in q own || is_in q list

-- Each candidate is appended unless it is skipped.
abbrev pub inherit : List Port → List Port → List Port → List Port
inherit own [] list = list
inherit own (q ∷ qs) list = inherit own qs (pick (skipped own list q) list (list ++ q ∷ []))

-- Declared keys resolved in order, then the parent's list. Declared keys are not skipped.
unfoldable pub dependency_list : Realms → List Port → Port → List ℕ → List Port → List Port
dependency_list z provisions anchor keys parents = inherit (own_ports provisions anchor) (candidates z parents) (map (resolve z) keys)

-- The search stops at the first port with that key; no such port answers none.
abbrev pub first_port : ℕ → List Port → List ℕ
first_port k [] = []
first_port k (p ∷ ps) = pick (eqb p.key k) (flat (p ∷ [])) (first_port k ps)

-- An unregistered id answers 1.
unfoldable pub dependency_port : Registry → ℕ → ℕ → Outcome
dependency_port r id k = known r id λ p. answers (first_port k p.dependencies)
