-- No operation's status is that of a bad line.
use Rattle.std.specs.Prelude.{ℕ, ◌≤◌, ◌≢◌, List}
use Rattle.std.proofs.Common.{arith}
use Rattle.rules.specs.Basics.{last}
use Rattle.rules.specs.Refusals.{number_within}
use Rattle.rules.specs.Outcomes.{Outcome, tells, refusing, accepting, writes, stores, adds, removes, answer_of}
use Rattle.rules.specs.Steps.{Op, step}
use Rattle.memory.specs.View.{view}
use Rattle.host_answers.specs.Told.{status_of}
use Rattle.host.specs.Tells.{answer}

-- a status is a refusal's number, or 0
status_within : (u : Outcome) → status_of (answer_of u) ≤ 27
unfolding status_of
status_within (tells (refusing x vs)) = (number_within x).1
status_within (tells (accepting vs)) = omega arith
status_within (writes place l vs) = omega arith
status_within (stores p vs) = omega arith
status_within (adds p vs) = omega arith
status_within (removes id vs) = omega arith

-- No status of an operation is the status of a bad line.
pub status_no_bad : (m : List ℕ) (o : Op) → status_of (answer m o) ≢ last
status_no_bad m o e =
    let h = status_within (step (view m) o) in
    omega arith
