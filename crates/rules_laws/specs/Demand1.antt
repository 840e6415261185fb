-- Demand 1, of the rules: a refusal changes neither the registry nor the lent buffer, whatever the operation and the registry.
use Rattle.std.specs.Prelude.{ℕ, ◌≡◌, refl, List}
use Rattle.rules.specs.Holds.{Registry}
use Rattle.rules.specs.Outcomes.{Refused, Outcome, tells, writes, stores, adds, removes, answer_of, after, lent_after}
use Rattle.rules.specs.Steps.{Op, step, answer_to, after_step, lent, lent_after_step}

pub record Unchanged (r r' : Registry) (buffer buffer' : List ℕ) : Type 0 where
  pub registry : r' ≡ r
  pub lent : buffer' ≡ buffer

refused_outcome : (r : Registry) (buffer : List ℕ) (u : Outcome) (n : ℕ) (vs : List ℕ) → answer_of u ≡ Refused n vs
    → Unchanged r (after r u) buffer (lent_after buffer u)
unfolding after lent_after
refused_outcome r buffer (tells a) n vs e = record { registry = refl; lent = refl }
refused_outcome r buffer (writes place l ws) n vs e = record { registry = cc; lent = cc }
refused_outcome r buffer (stores p ws) n vs e = record { registry = cc; lent = cc }
refused_outcome r buffer (adds p ws) n vs e = record { registry = cc; lent = cc }
refused_outcome r buffer (removes id ws) n vs e = record { registry = cc; lent = cc }

pub refusal_changes_nothing : (r : Registry) (o : Op) (n : ℕ) (vs : List ℕ) → answer_to r o ≡ Refused n vs
    → Unchanged r (after_step r o) (lent o) (lent_after_step r o)
refusal_changes_nothing r o n vs e = refused_outcome r (lent o) (step r o) n vs e
