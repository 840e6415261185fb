-- Demand 3, over histories alone: operations, answers, and what the start held. Nothing here looks at a root, a queue or a phase.
use Rattle.std.specs.Prelude.{ℕ, ◌≡◌, Bool, true, false, not, List, [], ◌∷◌, ◌++◌, eqb, get_or, Option, Some, None}
use Rattle.rules.specs.Basics.{pick, all, same_numbers}
use Rattle.rules.specs.Holds.{Plugin, Registry, lookup}
use Rattle.rules.specs.Outcomes.{Answer, Refused, Accepted}
use Rattle.rules.specs.Admission.{Invocation, five, receipt}
use Rattle.rules.specs.Steps.{Op, Event, Register, Begin, Ready, Fail, Unload, Finish, Replace, Admit, Call, Ask, Retire, RetireChild, Remove, Offer, Write}

-- What an accepted operation tells of a plugin, as far as demand 3 goes.
pub data Told : Type 0 where
  registered : (payload : ℕ) → Told
  removed : Told
  replaced : (payload : ℕ) → Told
  settled : Told
  retired : Told
  -- the numbers that the admission answered
  admitted : List ℕ → Told
  -- the five numbers of the call
  called : List ℕ → Told

pub record Note : Type 0 where
  pub id : ℕ
  pub told : Told

abbrev pub of : ℕ → Told → Option Note
of id k = Some (record { id = id; told = k })

-- an accepted operation, with the numbers that it answered
abbrev pub told : Op → List ℕ → Option Note
told (Register d) vs = of (get_or vs 0 0) (registered d.payload)
told (Remove id) vs = of id removed
told (Replace id v) vs = of id (replaced v)
told (Ready id) vs = of id settled
told (Fail id) vs = of id settled
told (Retire id) vs = of id retired
told (RetireChild c) vs = of c.id retired
told (Admit t a) vs = of (get_or vs 1 0) (admitted vs)
told (Call t) vs = of t.id (called (five t))
told (Begin id) vs = None
told (Unload id) vs = None
told (Finish id) vs = None
told (Offer id q v) vs = None
told (Ask q) vs = None
told (Write w l) vs = None

-- A refused operation tells nothing.
abbrev pub noted : Op → Answer → Option Note
noted o (Refused n vs) = None
noted o (Accepted vs) = told o vs

abbrev pub add_to : ℕ → Option Note → List Told → List Told
add_to x None h = h
add_to x (Some n) h = pick (eqb n.id x) (n.told ∷ h) h

-- What a start tells of a plugin that it holds; a fresh registry holds none.
abbrev pub told_at_start : Option Plugin → List Told
told_at_start None = []
told_at_start (Some p) = pick p.retired (retired ∷ registered p.payload ∷ []) (registered p.payload ∷ [])

-- The story of plugin x since a start: what the accepted operations told of it, the latest first.
unfoldable pub story : Registry → ℕ → List Event → List Told
story s x [] = told_at_start (lookup s x)
story s x (e ∷ es) = add_to x (noted e.op e.answer) (story s x es)

-- the payload stored, by the story
abbrev pub stored : List Told → ℕ
stored [] = 0
stored (registered v ∷ h) = v
stored (replaced v ∷ h) = v
stored (removed ∷ h) = stored h
stored (settled ∷ h) = stored h
stored (retired ∷ h) = stored h
stored (admitted vs ∷ h) = stored h
stored (called vs ∷ h) = stored h

abbrev pub is_registered : List Told → Bool
is_registered [] = false
is_registered (registered v ∷ h) = true
is_registered (removed ∷ h) = false
is_registered (replaced v ∷ h) = is_registered h
is_registered (settled ∷ h) = is_registered h
is_registered (retired ∷ h) = is_registered h
is_registered (admitted vs ∷ h) = is_registered h
is_registered (called vs ∷ h) = is_registered h

abbrev pub is_retired : List Told → Bool
is_retired [] = false
is_retired (retired ∷ h) = true
is_retired (registered v ∷ h) = is_retired h
is_retired (removed ∷ h) = is_retired h
is_retired (replaced v ∷ h) = is_retired h
is_retired (settled ∷ h) = is_retired h
is_retired (admitted vs ∷ h) = is_retired h
is_retired (called vs ∷ h) = is_retired h

-- That invocation was accepted, or its plugin was replaced, settled or retired.
abbrev pub ends : Invocation → Told → Bool
ends t (called vs) = same_numbers vs (five t)
ends t (replaced v) = true
ends t settled = true
ends t retired = true
ends t (registered v) = false
ends t removed = false
ends t (admitted vs) = false

-- An earlier admission answered the same five numbers, nothing since then ended it, and the payload stored at it was v.
pub record Open (t : Invocation) (h : List Told) (v : ℕ) : Type 0 where
  pub since : List Told
  pub before : List Told
  pub answered : h ≡ since ++ admitted (five t) ∷ before
  pub quiet : all (λ k. not (ends t k)) since ≡ true
  pub payload : stored before ≡ v

-- 3 for a foreign domain, 1 for an unregistered plugin, 2 for a retired one, 13 otherwise.
abbrev pub refusal_for : ℕ → Invocation → List Told → ℕ
refusal_for d t h = pick (not (eqb t.domain d)) 3 (pick (not (is_registered h)) 1 (pick (is_retired h) 2 13))

-- What is demanded of the answer to a call, over the story h of its plugin in a registry of domain d.
pub record Demand3 (d : ℕ) (t : Invocation) (h : List Told) (answer : Answer) : Type 0 where
  pub accepted : (v : ℕ) → Open t h v → answer ≡ Accepted (receipt t v)
  pub exactly : (vs : List ℕ) → answer ≡ Accepted vs → (v : ℕ) × Open t h v × (vs ≡ receipt t v)
  pub refused : ((v : ℕ) → ¬ Open t h v) → answer ≡ Refused (refusal_for d t h) []
