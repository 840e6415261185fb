-- Upstream's clauses on R's admission and call.
use Rattle.std.specs.Prelude.{ℕ, ◌≡◌, [], ◌∷◌}
use Rattle.rules.specs.Basics.{yes_no}
use Rattle.rules.specs.Holds.{Registry}
use Rattle.rules.specs.Outcomes.{Accepted, answer_of}
use Rattle.rules.specs.Admission.{Ticket, admit, admits}
use Rattle.rules_upstream.specs.Accepted.{accepted, exact}
use Rattle.rules_upstream.specs.Admission.{root_ready}

module _ (r : Registry) where
  -- R admit_registered_root: accepted exactly if the root is ready.
  pub admit_exactly : (t : Ticket) (a : ℕ) → accepted (admit r t a) ≡ root_ready r t
  unfolding admit
  admit_exactly t a = simp exact

  -- R accepts_root_invocation: yes exactly if the root is ready. R does not look at the root itself.
  pub admits_exactly : (t : Ticket) → answer_of (admits r t) ≡ Accepted (yes_no (root_ready r t) ∷ [])
  unfolding admits
  admits_exactly t = rw (admit_exactly t 0)
