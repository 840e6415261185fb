-- What a listing answers, in document 01's numbers, and what it leaves of the lent buffer.
use Rattle.std.specs.Prelude.{ℕ, ◌≡◌, List}
use Rattle.rules_types.specs.declared.Port.{Port}
use Rattle.rules.specs.Outcomes.{Answer, answer_of, lent_after}
use Rattle.rules.specs.Lists.{listing}

abbrev pub Lists : List Port → ℕ → List ℕ → Answer → List ℕ → Type 0
Lists ports place b a b' = (a ≡ answer_of (listing ports place b)) × (b' ≡ lent_after b (listing ports place b))
