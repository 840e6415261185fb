-- Document 01, "Phases".
use Rattle.std.specs.Prelude.{ℕ, ◌+◌, Bool, true, false, not, ◌&&◌, List, [], ◌∷◌, map, eqb, get_or, Option, Some, None}
use Rattle.rules.specs.Basics.{any, all, is_none, holds, or_else, last}
use Rattle.rules.specs.Holds.{Port, Provision, Plugin, Registry, plugins, provider, provides, running}
use Rattle.rules.specs.Holds.{Phase, Idle, Loading, Active, Unloading, is_active, Root, Unissued, Queued, Spent}
use Rattle.rules.specs.Holds.{with_phase, with_generation, with_root, with_provisions}
use Rattle.rules.specs.Refusals.{Retired, InvalidState, Unavailable, InUse, Exhausted, NotRun, Missing}
use Rattle.rules.specs.Outcomes.{Outcome, stores, ◌⇒◌, checked, known}

pub data Step : Type 0 where
  Begin Ready Fail Unload Finish : Step

abbrev pub column : Step → ℕ
column Begin = 0
column Ready = 1
column Fail = 2
column Unload = 3
column Finish = 4

-- This table of phases and steps is the whole rule; an empty cell is refusal 3.
abbrev pub row : Phase → List (Option Phase)
-- begin ∷ ready ∷ fail ∷ unload ∷ finish
row Idle = Some Loading ∷ None ∷ None ∷ None ∷ None ∷ []
row Loading = None ∷ Some Active ∷ Some Unloading ∷ None ∷ None ∷ []
row Active = None ∷ None ∷ None ∷ Some Unloading ∷ None ∷ []
row Unloading = None ∷ None ∷ None ∷ None ∷ Some Idle ∷ []

abbrev pub cell : Phase → Step → Option Phase
cell ph s = get_or (row ph) (column s) None

-- the cell is empty
abbrev pub stuck : Step → Plugin → Bool
stuck s p = is_none (cell p.phase s)

abbrev pub moved : Step → Plugin → Plugin
moved s p = with_phase (or_else (cell p.phase s) p.phase) p

-- 14: a dependency has no Active provider
abbrev pub available : Registry → Port → Bool
available r q = holds (λ (p : Plugin). is_active p.phase) (provider r q)

-- 15: a Loading or Active plugin depends on one of its provisions or its anchor
abbrev pub in_use : Registry → Plugin → Bool
in_use r p = any (λ (q : Plugin). running q && any (provides p) q.dependencies) (plugins r)

-- 17: root not Spent
abbrev pub is_spent : Root → Bool
is_spent Unissued = false
is_spent (Queued v a) = false
is_spent Spent = true

-- the kind of a Setup ticket
abbrev pub setup : ℕ
setup = 1

-- Begin: 1, 2, phase, 16, 14; generation + 1, root Unissued, answers a ticket (domain, id, generation, kind).
unfoldable pub begin : Registry → ℕ → Outcome
begin r id = known r id λ p.
    checked
    ((p.retired ⇒ Retired)
    ∷ (stuck Begin p ⇒ InvalidState)
    ∷ (eqb p.generation last ⇒ Exhausted)
    ∷ (not (all (available r) p.dependencies) ⇒ Unavailable)
    ∷ [])
    (stores (moved Begin (with_generation (p.generation + 1) (with_root Unissued p))) (r.domain ∷ id ∷ (p.generation + 1) ∷ setup ∷ []))

-- Ready: 1, 2, phase, 17, 22 if a provision has no value.
unfoldable pub ready : Registry → ℕ → Outcome
ready r id = known r id λ p.
    checked
    ((p.retired ⇒ Retired)
    ∷ (stuck Ready p ⇒ InvalidState)
    ∷ (not (is_spent p.root) ⇒ NotRun)
    ∷ (any (λ (v : Provision). is_none v.value) p.provisions ⇒ Missing)
    ∷ [])
    (stores (moved Ready p) [])

-- Fail: 1, phase.
unfoldable pub fail : Registry → ℕ → Outcome
fail r id = known r id λ p. checked ((stuck Fail p ⇒ InvalidState) ∷ []) (stores (moved Fail p) [])

-- Unload: 1, phase, 15.
unfoldable pub unload : Registry → ℕ → Outcome
unload r id = known r id λ p. checked ((stuck Unload p ⇒ InvalidState) ∷ (in_use r p ⇒ InUse) ∷ []) (stores (moved Unload p) [])

abbrev pub dropped : Provision → Provision
dropped v = record { port = v.port; value = None }

-- Finish: 1, phase; values are dropped and root is Unissued.
unfoldable pub finish : Registry → ℕ → Outcome
finish r id = known r id λ p.
    checked ((stuck Finish p ⇒ InvalidState) ∷ [])
    (stores (moved Finish (with_provisions (map dropped p.provisions) (with_root Unissued p))) [])
