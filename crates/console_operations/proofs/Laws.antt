-- A number that a question answers, told. Assumes nothing.
use Prim.Native.Nat.{ℕ}
use mathlib.Core.Path.{◌≡◌}
use mathlib.Core.List.{List, [], ◌∷◌}
use Rattle.rules.specs.Outcomes.{Accepted}
use Rattle.rules.specs.Steps.{Op}
use Rattle.host_answers.specs.Told.{status_of, words_of, counted as told}
use Rattle.host.specs.Tells.{answer}
use Rattle.console_names.specs.Table.{Told}
use Rattle.console_operations.specs.Carried.{Answers}

pub one_told : (m out : List ℕ) (status : ℕ) (out' : List ℕ) (o : Op) (n : ℕ) → answer m o ≡ Accepted (n ∷ []) → status ≡ 0 → out' ≡ told (n ∷ []) out
    → Answers m (Told o) out status out'
unfolding status_of words_of
one_told m out status out' o n e s w = (rw e s, rw e w)
