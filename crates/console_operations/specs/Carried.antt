-- What is asked for, carried out on a memory's words.
use Rattle.std.specs.Prelude.{ℕ, ◌≡◌, List}
use Rattle.rules.specs.Basics.{last}
use Rattle.rules.specs.Lists.{Which}
use Rattle.rules.specs.Steps.{lent_after_step, Write}
use Rattle.rules.specs.Questions.{Listed}
use Rattle.memory.specs.View.{view}
use Rattle.host_answers.specs.Told.{status_of, words_of, Tells}
use Rattle.demands.specs.Leaves.{leaves}
use Rattle.demands.specs.Starts.{blank}
use Rattle.host.specs.Tells.{answer}
use Rattle.console_names.specs.Table.{Asked, Bad, Open, Stated, Told}

-- The status: that of what is no operation is no refusal's number.
abbrev pub status_by : List ℕ → Asked → ℕ
status_by m Bad = last
status_by m (Open domain first) = 0
status_by m (Stated o) = status_of (answer m o)
status_by m (Told o) = status_of (answer m o)

-- The words in which numbers are told.
abbrev pub words_by : List ℕ → Asked → List ℕ → List ℕ
words_by m Bad out = out
words_by m (Open domain first) out = out
words_by m (Stated o) out = out
words_by m (Told o) out = words_of (answer m o) out

-- The memory.
abbrev pub left_by : List ℕ → Asked → List ℕ
left_by m Bad = m
left_by m (Open domain first) = blank m domain first
left_by m (Stated o) = leaves m o
left_by m (Told o) = leaves m o

abbrev pub Answers : List ℕ → Asked → List ℕ → ℕ → List ℕ → Type 0
Answers m a out status out' = (status ≡ status_by m a) × (out' ≡ words_by m a out)

abbrev pub Carried : List ℕ → Asked → List ℕ → ℕ → List ℕ → List ℕ → Type 0
Carried m a out status out' m' = Answers m a out status out' × (m' ≡ left_by m a)

-- What is carried out of one thing asked for is carried out of the same.
pub same : (m out : List ℕ) (status : ℕ) (out' m' : List ℕ) (a b : Asked) → a ≡ b → Carried m b out status out' m' → Carried m a out status out' m'
same m out status out' m' a b e t = rw e t

-- A listing, and the buffer.
abbrev pub Lists : List ℕ → Which → ℕ → ℕ → List ℕ → List ℕ → ℕ → List ℕ → List ℕ → Type 0
Lists m w id from buffer out status out' buffer' =
    Tells (answer m (Write (Listed w id from) buffer)) out status out' × (buffer' ≡ lent_after_step (view m) (Write (Listed w id from) buffer))
