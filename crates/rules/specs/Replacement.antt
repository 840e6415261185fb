-- Document 01, "Replacement".
use Rattle.std.specs.Prelude.{ℕ, ◌+◌, [], ◌∷◌, eqb, leb}
use Rattle.rules.specs.Basics.{yes_no, last}
use Rattle.rules.specs.Holds.{Registry, with_revision, with_payload}
use Rattle.rules.specs.Refusals.{Exhausted}
use Rattle.rules.specs.Outcomes.{Outcome, answers, stores, ◌⇒◌, checked, known, handing_back}

-- 1, 16. Answers the former payload, stores the new one, revision + 1, any phase, retired or not.
unfoldable pub replace : Registry → ℕ → ℕ → Outcome
replace r id v = handing_back v (known r id λ p.
    checked ((eqb p.revision last ⇒ Exhausted) ∷ [])
    (stores (with_revision (p.revision + 1) (with_payload v p)) (p.payload ∷ [])))

-- Whether a count of replacements fits: 1, else yes exactly if revision + count ≤ 2^64 − 1.
unfoldable pub fits : Registry → ℕ → ℕ → Outcome
fits r id n = known r id λ p. answers (yes_no (leb (p.revision + n) last) ∷ [])
