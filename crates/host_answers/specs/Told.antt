-- What a host is told of an answer: a status, 0 for an acceptance or the refusal's number, and in the host's words the count of
-- the answer's numbers with the numbers behind it. Where a refusal answers no number the words stay.
use Rattle.std.specs.Prelude.{ℕ, ◌≡◌, List, [], ◌∷◌, length}
use Rattle.rules.specs.Outcomes.{Answer, Refused, Accepted}
use Rattle.memory.specs.Writes.{puts}

unfoldable pub status_of : Answer → ℕ
status_of (Refused n vs) = n
status_of (Accepted vs) = 0

abbrev pub counted : List ℕ → List ℕ → List ℕ
counted vs out = puts out 0 0 (length vs ∷ vs)

unfoldable pub words_of : Answer → List ℕ → List ℕ
words_of (Refused n []) out = out
words_of (Refused n (v ∷ vs)) out = counted (v ∷ vs) out
words_of (Accepted vs) out = counted vs out

abbrev pub Tells : Answer → List ℕ → ℕ → List ℕ → Type 0
Tells a out status out' = (status ≡ status_of a) × (out' ≡ words_of a out)
