-- The rules on reading and asking for values, of a found plugin.
use Rattle.std.specs.Prelude.{ℕ, Bool, not, ◌&&◌, ◌||◌, List, [], ◌∷◌}
use Rattle.rules.specs.Basics.{yes_no, one}
use Rattle.rules.specs.Holds.{Plugin, Registry, provider, provided, is_in, running}
use Rattle.rules_types.specs.declared.Port.{Port}
use Rattle.rules.specs.Refusals.{number, Closed, Undeclared, Missing}
use Rattle.rules.specs.Outcomes.{Answer, Refused, Accepted, Outcome, answers, Check, ◌⇒◌, checked}
use Rattle.rules.specs.Ports.{pairs, odd_length, same_ports}
use Rattle.rules.specs.Values.{value_in, given, served, is_empty, first_missing}

-- Read: a provider's value and id, as an answer
unfoldable pub served_answer : List ℕ → Answer
served_answer [] = Refused (number Missing) []
served_answer (v ∷ vs) = Accepted (v ∷ vs)

unfoldable pub given_by : Plugin → Port → Answer
given_by p q = served_answer (given p (value_in q p.provisions))

-- what is left of a read once the reader may ask
abbrev pub asks : List ℕ → List Check
asks l = (is_empty l ⇒ Missing) ∷ []

abbrev pub reads : Registry → Port → Plugin → Outcome
reads r q p =
    checked
    ((not (running p) ⇒ Closed) ∷ (not (is_in q p.dependencies) ⇒ Undeclared) ∷ asks (served q (provider r q)))
    (answers (served q (provider r q)))

abbrev pub owns : Port → Plugin → Outcome
owns q p = answers (one (value_in q p.provisions))

abbrev pub lacks : Plugin → Outcome
lacks p = answers (first_missing p.provisions)

abbrev pub fits : List ℕ → Plugin → Outcome
fits l p = answers (yes_no (not (odd_length l) && same_ports (pairs l) (provided p)) ∷ [])

-- a provision, or a dependency of a plugin that is Loading or Active
unfoldable pub declared : Plugin → Port → Bool
declared p q = is_in q (provided p) || (running p && is_in q p.dependencies)

abbrev pub tells : Port → Plugin → Outcome
tells q p = answers (yes_no (declared p q) ∷ [])
