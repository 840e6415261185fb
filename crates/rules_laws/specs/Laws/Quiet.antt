-- What is written to a lent buffer refuses, answers or writes, whatever the registry: nothing else changes.
use Rattle.std.specs.Prelude.{ℕ, List, Option, Some, None}
use Rattle.rules.specs.Holds.{Plugin, Registry, lookup}
use Rattle.rules.specs.Outcomes.{Outcome, tells, writes, stores, adds, removes, Check, checked, known}
use Rattle.rules.specs.Lists.{listing, list}
use Rattle.rules.specs.Text.{write_text}
use Rattle.rules.specs.Orders.{planned, plan, plan_order}
use Rattle.rules.specs.Questions.{Writing, writing, Listed, Text, Order}
use Rattle.rules_laws.specs.Laws.Tests.{checked_elim, found_elim}

abbrev pub Quiet : Outcome → Type 0
Quiet (tells a) = Unit {0}
Quiet (writes place l vs) = Unit {0}
Quiet (stores p vs) = ⊥
Quiet (adds p vs) = ⊥
Quiet (removes id vs) = ⊥

quiet_checked : (cs : List Check) (u : Outcome) → Quiet u → Quiet (checked cs u)
quiet_checked cs u h = checked_elim Quiet cs u (λ x. tt) (λ _. h)

quiet_known : (r : Registry) (id : ℕ) (f : Plugin → Outcome) → ((p : Plugin) → Quiet (f p)) → Quiet (known r id f)
quiet_known r id f h = found_elim Quiet (lookup r id) f tt (λ p _. h p)

quiet_planned : (u : Option (List ℕ)) → Quiet (planned u)
quiet_planned None = tt
quiet_planned (Some order) = tt

pub writing_quiet : (r : Registry) (w : Writing) (buffer : List ℕ) → Quiet (writing r w buffer)
unfolding list listing write_text plan_order
writing_quiet r (Listed w id place) buffer = quiet_known r id _ λ p. quiet_checked _ _ tt
writing_quiet r Text buffer = quiet_checked _ _ tt
writing_quiet r (Order set) buffer = quiet_checked _ _ (quiet_planned (plan r set))
