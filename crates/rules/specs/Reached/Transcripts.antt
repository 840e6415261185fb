-- A transcript: operations, and what the rules answer to them, line by line.
use Rattle.std.specs.Prelude.{ℕ, zero, suc, ◌+◌, ◌≡◌, Bool, true, false, ◌&&◌, List, [], ◌∷◌, eqb}
use Rattle.rules.specs.Basics.{same_numbers}
use Rattle.rules.specs.Holds.{Registry}
use Rattle.rules.specs.Refusals.{Refusal, number}
use Rattle.rules.specs.Outcomes.{Answer, Refused, Accepted, answer_of, after}
use Rattle.rules.specs.Retirement.{Identity}
use Rattle.rules.specs.Steps.{Op, step}

infix 68 ◌↝◌
-- A line of a transcript: an operation and its answer.
pub record Line : Type 0 where
  pub op : Op
  pub answer : Answer

abbrev pub ◌↝◌ : Op → Answer → Line
o ↝ a = record { op = o; answer = a }

abbrev pub ok : List ℕ → Answer
ok vs = Accepted vs

abbrev pub refused : Refusal → Answer
refused x = Refused (number x) []

abbrev pub same_answer : Answer → Answer → Bool
same_answer (Refused n vs) (Refused m ws) = eqb n m && same_numbers vs ws
same_answer (Refused n vs) (Accepted ws) = false
same_answer (Accepted vs) (Refused m ws) = false
same_answer (Accepted vs) (Accepted ws) = same_numbers vs ws

-- What the rules answer, line by line, is what the transcript says.
abbrev pub holds_from : Registry → List Line → Bool
holds_from r [] = true
holds_from r (l ∷ ls) =
    let u = step r l.op in
    let r' = after r u in
    same_answer (answer_of u) l.answer && holds_from r' ls

abbrev pub Holds : Registry → List Line → Type 0
Holds r lines = holds_from r lines ≡ true

-- n keys from k on; n realm rows that give each of them realm r
abbrev pub keys : ℕ → ℕ → List ℕ
keys zero k = []
keys (suc n) k = k ∷ keys n (k + 1)

abbrev pub realm_rows : ℕ → ℕ → ℕ → List ℕ
realm_rows zero k r = []
realm_rows (suc n) k r = k ∷ r ∷ realm_rows n (k + 1) r

abbrev pub child : ℕ → ℕ → ℕ → Identity
child domain parent id = record { domain = domain; parent = parent; id = id }
