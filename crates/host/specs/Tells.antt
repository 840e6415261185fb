-- What the engine answers to an operation on a memory's words, and what it leaves.
use Rattle.std.specs.Prelude.{ℕ, ◌≡◌, List}
use Rattle.rules.specs.Outcomes.{Answer}
use Rattle.rules.specs.Slot as rules
use Rattle.rules.specs.Load.{load, load_answer}
use Rattle.rules.specs.Steps.{Op, answer_to, lent_after_step}
use Rattle.memory.specs.View.{view}
use Rattle.slot_words.specs.Words.{slot_after}
use Rattle.demands.specs.Leaves.{leaves}
use Rattle.registry_load.specs.Words.{leaves_load}
use Rattle.host_answers.specs.Told.{status_of, Tells}

abbrev pub answer : List ℕ → Op → Answer
answer m o = answer_to (view m) o

-- what a function for an operation does: it states the answer, and leaves the memory so
abbrev pub Does : List ℕ → Op → ℕ → List ℕ → Type 0
Does m o status m' = (status ≡ status_of (answer m o)) × (m' ≡ leaves m o)

-- the same where the answer's numbers are told too
abbrev pub DoesAndTells : List ℕ → Op → List ℕ → ℕ → List ℕ → List ℕ → Type 0
DoesAndTells m o out status out' m' = Tells (answer m o) out status out' × (m' ≡ leaves m o)

-- a listing changes the lent buffer, and not the memory
abbrev pub ListsAndTells : List ℕ → Op → List ℕ → ℕ → List ℕ → List ℕ → Type 0
ListsAndTells m o out status out' buffer' = Tells (answer m o) out status out' × (buffer' ≡ lent_after_step (view m) o)

-- a load states its answer, and leaves the memory so
abbrev pub Loads : List ℕ → ℕ → List ℕ → ℕ → List ℕ → Type 0
Loads m domain text status m' = (status ≡ status_of (load_answer (load domain text))) × (m' ≡ leaves_load m (load domain text))

-- a decision on a child slot in the host's words
abbrev pub Decides : rules.Decided → List ℕ → ℕ → List ℕ → Type 0
Decides d slot status slot' = (status ≡ status_of d.answer) × (slot' ≡ slot_after slot d)
