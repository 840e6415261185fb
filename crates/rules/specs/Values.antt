-- Document 01, "Values".
use Rattle.std.specs.Prelude.{ℕ, Bool, true, false, not, ◌&&◌, ◌||◌, List, [], ◌∷◌, map, Option, Some, None}
use Rattle.rules.specs.Basics.{pick, is_some, is_none, yes_no, one}
use Rattle.rules.specs.Holds.{Port, Provision, Plugin, Registry, provider, provided, same_port, is_in, is_loading, is_active, running, with_provisions}
use Rattle.rules.specs.Refusals.{Closed, Undeclared, Duplicate, Missing}
use Rattle.rules.specs.Outcomes.{Outcome, answers, stores, ◌⇒◌, checked, known}
use Rattle.rules.specs.Ports.{pairs, odd_length, flat, same_ports}

-- the value of a port among provisions, or none
abbrev pub value_in : Port → List Provision → Option ℕ
value_in q [] = None
value_in q (v ∷ vs) = pick (same_port q v.port) v.value (value_in q vs)

abbrev pub offered : Port → ℕ → Provision → Provision
offered q n v = record { port = v.port; value = pick (same_port q v.port) (Some n) v.value }

-- Offer (id, port, value): 1, 19 unless Loading and not retired, 20 if not in provisions, 21.
unfoldable pub offer : Registry → ℕ → Port → ℕ → Outcome
offer r id q n = known r id λ p.
    checked
    ((not (is_loading p.phase && not p.retired) ⇒ Closed)
    ∷ (not (is_in q (provided p)) ⇒ Undeclared)
    ∷ (is_some (value_in q p.provisions) ⇒ Duplicate)
    ∷ [])
    (stores (with_provisions (map (offered q n) p.provisions) p) [])

-- value and provider id
abbrev pub given : Plugin → Option ℕ → List ℕ
given p None = []
given p (Some n) = n ∷ p.id ∷ []

abbrev pub served : Port → Option Plugin → List ℕ
served q None = []
served q (Some p) = given p (value_in q p.provisions)

abbrev pub is_empty : List ℕ → Bool
is_empty [] = true
is_empty (x ∷ xs) = false

-- Read (id, port): 1, 19 if neither Loading nor Active, 20 if not a dependency, 22 if its provider has no value for it.
unfoldable pub read : Registry → ℕ → Port → Outcome
read r id q = known r id λ p.
    checked
    ((not (running p) ⇒ Closed)
    ∷ (not (is_in q p.dependencies) ⇒ Undeclared)
    ∷ (is_empty (served q (provider r q)) ⇒ Missing)
    ∷ [])
    (answers (served q (provider r q)))

-- the Active provider's value, or none
abbrev pub seen : Port → Option Plugin → List ℕ
seen q None = []
seen q (Some p) = pick (is_active p.phase) (one (value_in q p.provisions)) []

-- Visible (port).
unfoldable pub visible : Registry → Port → Outcome
visible r q = answers (seen q (provider r q))

-- A plugin's own value of a provision (S's own): 1, else the value or none.
unfoldable pub own : Registry → ℕ → Port → Outcome
own r id q = known r id λ p. answers (one (value_in q p.provisions))

-- the first provision in order without a value, or none
abbrev pub first_missing : List Provision → List ℕ
first_missing [] = []
first_missing (v ∷ vs) = pick (is_none v.value) (flat (v.port ∷ [])) (first_missing vs)

-- Missing (id): 1, else the first.
unfoldable pub missing : Registry → ℕ → Outcome
missing r id = known r id λ p. answers (first_missing p.provisions)

-- Matching (id, list): 1, else yes exactly if the list is the provision list in order; an odd length answers no.
unfoldable pub matching : Registry → ℕ → List ℕ → Outcome
matching r id l = known r id λ p. answers (yes_no (not (odd_length l) && same_ports (pairs l) (provided p)) ∷ [])

-- Declared service (id, port): 1, else yes exactly if the port is a provision, or the plugin is Loading or Active and it is a dependency.
unfoldable pub declares : Registry → ℕ → Port → Outcome
declares r id q = known r id λ p.
    answers (yes_no (is_in q (provided p) || (running p && is_in q p.dependencies)) ∷ [])
