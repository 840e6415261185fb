-- What a replacement answers in document 01's numbers.
use Rattle.std.specs.Prelude.{ℕ, ◌≡◌, [], ◌∷◌, Result, Ok, Err}
use Rattle.std.proofs.Common.{ap}
use Rattle.rules.specs.Outcomes.{Answer, Refused, Accepted}
use Rattle.rules.specs.Refusals.{Refusal, number, refusal_exact}
use Rattle.registry_replace.specs.declared.Unreplaced.{Unreplaced}

abbrev pub unreplaced : Refusal → ℕ → Unreplaced
unreplaced x v = record { why = x; payload = v }

abbrev pub replaced_answer : Result ℕ Unreplaced → Answer
replaced_answer (Ok p) = Accepted (p ∷ [])
replaced_answer (Err u) = Refused (number u.why) (u.payload ∷ [])

-- Any two outcomes that such a promise allows are equal.
pub replaced_exact : (a b : Result ℕ Unreplaced) → replaced_answer a ≡ replaced_answer b → a ≡ b
replaced_exact (Ok p) (Ok q) e = let j : p ≡ q = cc in ap Ok j
replaced_exact (Ok p) (Err u) e = cc
replaced_exact (Err u) (Ok p) e = cc
replaced_exact (Err u) (Err w) e =
    let n : number u.why ≡ number w.why = cc in
    let j = refusal_exact u.why w.why n in
    let k : u.payload ≡ w.payload = cc in
    λ i. Err (unreplaced (j i) (k i))
