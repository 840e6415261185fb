-- Document 01, "Refusal numbers": what an operation comes to. A refusal answers its number and changes nothing.
use Rattle.std.specs.Prelude.{ℕ, ◌+◌, ◌≡◌, Bool, List, [], ◌∷◌, ◌++◌, map, eqb, length, take, drop, Option, Some, None}
use Rattle.rules.specs.Basics.{pick}
use Rattle.rules.specs.Holds.{Plugin, Places, Registry, lookup}
use Rattle.rules.specs.Refusals.{Refusal, number, Unknown}

infix 20 ◌⇒◌
-- An answer: a refusal's number, with the offered payload where that is handed back; or the numbers of an acceptance.
-- What is absent (document 01's none) is no number.
pub data Answer : Type 0 where
  Refused : ℕ → List ℕ → Answer
  Accepted : List ℕ → Answer

-- What is told: a refusal, with the offered payload where that is handed back; or the numbers of an acceptance.
pub data Reply : Type 0 where
  refusing : Refusal → List ℕ → Reply
  accepting : List ℕ → Reply

-- What an operation comes to. All but the first are acceptances with the numbers answered.
pub data Outcome : Type 0 where
  -- it is told, and nothing changes
  tells : Reply → Outcome
  -- numbers go into the lent buffer from a place
  writes : (place : ℕ) → List ℕ → List ℕ → Outcome
  -- the registered plugin of this one's id becomes this one
  stores : Plugin → List ℕ → Outcome
  -- a new plugin takes the lowest free place; next id + 1
  adds : Plugin → List ℕ → Outcome
  -- the plugin's place is freed, and its rows with it
  removes : ℕ → List ℕ → Outcome

abbrev pub refuses : Refusal → List ℕ → Outcome
refuses x vs = tells (refusing x vs)

abbrev pub answers : List ℕ → Outcome
answers vs = tells (accepting vs)

-- Checks run in the order given for each operation: the first test that holds refuses.
pub record Check : Type 0 where
  pub test : Bool
  pub refusal : Refusal

abbrev pub ◌⇒◌ : Bool → Refusal → Check
b ⇒ x = record { test = b; refusal = x }

unfoldable pub checked : List Check → Outcome → Outcome
checked [] u = u
checked (c ∷ cs) u = pick c.test (refuses c.refusal []) (checked cs u)

-- The number of the first check that refuses; 0 where all pass.
abbrev pub first_number : List Check → ℕ
first_number [] = 0
first_number (c ∷ cs) = pick c.test (number c.refusal) (first_number cs)

-- The id is looked up once; 1 if it names no registered plugin.
unfoldable pub found : Option Plugin → (Plugin → Outcome) → Outcome
found None f = refuses Unknown []
found (Some p) f = f p

abbrev pub known : Registry → ℕ → (Plugin → Outcome) → Outcome
known r id f = found (lookup r id) f

-- A refusal that also answers the offered payload.
unfoldable pub handing_back : ℕ → Outcome → Outcome
handing_back v (tells (refusing x vs)) = refuses x (v ∷ [])
handing_back v (tells (accepting vs)) = answers vs
handing_back v (writes place l vs) = writes place l vs
handing_back v (stores p vs) = stores p vs
handing_back v (adds p vs) = adds p vs
handing_back v (removes id vs) = removes id vs

-- What is told, whatever else changes.
abbrev pub reply_of : Outcome → Reply
reply_of (tells a) = a
reply_of (writes place l vs) = accepting vs
reply_of (stores p vs) = accepting vs
reply_of (adds p vs) = accepting vs
reply_of (removes id vs) = accepting vs

-- A refusal is answered by its number, so no other number is.
abbrev pub numbered : Reply → Answer
numbered (refusing x vs) = Refused (number x) vs
numbered (accepting vs) = Accepted vs

abbrev pub answer_of : Outcome → Answer
answer_of o = numbered (reply_of o)

-- The registry afterwards.
abbrev pub stored_at : Plugin → Option Plugin → Option Plugin
stored_at p None = None
stored_at p (Some q) = Some (pick (eqb q.id p.id) p q)

abbrev pub freed_at : ℕ → Option Plugin → Option Plugin
freed_at id None = None
freed_at id (Some q) = pick (eqb q.id id) None (Some q)

abbrev pub at_lowest_free : Plugin → Places → Places
at_lowest_free p [] = []
at_lowest_free p (None ∷ ps) = Some p ∷ ps
at_lowest_free p (Some q ∷ ps) = Some q ∷ at_lowest_free p ps

abbrev pub with_places : Registry → ℕ → Places → Registry
with_places r n ps = record { domain = r.domain; first = r.first; next = n; places = ps }

unfoldable pub after : Registry → Outcome → Registry
after r (tells a) = r
after r (writes place l vs) = r
after r (stores p vs) = with_places r r.next (map (stored_at p) r.places)
after r (adds p vs) = with_places r (r.next + 1) (at_lowest_free p r.places)
after r (removes id vs) = with_places r r.next (map (freed_at id) r.places)

-- The lent buffer afterwards: every number outside what is written stays.
abbrev pub written : List ℕ → ℕ → List ℕ → List ℕ
written buffer place l = take place buffer ++ l ++ drop (place + length l) buffer

unfoldable pub lent_after : List ℕ → Outcome → List ℕ
lent_after buffer (tells a) = buffer
lent_after buffer (writes place l vs) = written buffer place l
lent_after buffer (stores p vs) = buffer
lent_after buffer (adds p vs) = buffer
lent_after buffer (removes id vs) = buffer

-- What a function promises by an outcome: it answers as the outcome does, and leaves what it was lent, the registry's words or a
-- buffer, as this says.
abbrev pub Meets : (List ℕ → Outcome → List ℕ) → Outcome → List ℕ → Answer → List ℕ → Type 0
Meets leaves o m a m' = (a ≡ answer_of o) × (m' ≡ leaves m o)
