-- The verdicts of the three runs decide a registration, whose checks are the runs in a row.
use Rattle.std.specs.Prelude.{ℕ, ◌+◌, ◌≡◌, refl, List, [], ◌∷◌, ◌++◌, length, Option, Result, Ok, Err}
use Rattle.std.proofs.Common.{ap, ◌∙◌}
use Rattle.rules.specs.Refusals.{Refusal}
use Rattle.rules.specs.Holds.{Registry, rows_of, rows_in_use}
use Rattle.rules.specs.Outcomes.{adds, refuses, Check}
use Rattle.rules.specs.Registration.{Definition, claimed, dependencies_of, new_plugin, asked_checks, claim_checks, room_checks, registration_checks, register}
use Rattle.rules_laws.specs.Laws.Verdicts.{verdict_first, verdict_then, checked_pass, checked_refuses}
use Rattle.rules.specs.Answers.{verdict}
use Rattle.registry_register.specs.Verdicts.{under}

-- what the early run says of the verdict and of the parent's place
pub under_passed : (at : Option ℕ) (v : Result Unit Refusal) (k : Option ℕ) → under at v ≡ Ok k → (v ≡ Ok tt) × (at ≡ k)
under_passed at (Ok x) k e = (refl, cc)
under_passed at (Err x) k e = (cc, cc)

pub under_refused : (at : Option ℕ) (v : Result Unit Refusal) (x : Refusal) → under at v ≡ Err x → v ≡ Err x
under_refused at (Ok u) x e = cc
under_refused at (Err y) x e = let j : y ≡ x = cc in ap Err j

module _ (r : Registry) (d : Definition) where
  abbrev pub asks : List Check
  asks = asked_checks r d

  abbrev pub claims : List Check
  claims = claim_checks r (claimed d)

  abbrev pub room : List Check
  room = room_checks r (length (dependencies_of r d)) (rows_in_use r + rows_of (new_plugin r d))

  refuses_with : (x : Refusal) → verdict (registration_checks r d) ≡ Err x → register r d ≡ refuses x []
  unfolding register
  refuses_with x e = checked_refuses (registration_checks r d) _ x e

  pub early_refuses : (x : Refusal) → verdict asks ≡ Err x → register r d ≡ refuses x []
  early_refuses x e = refuses_with x (verdict_first asks (claims ++ room) x e)

  module _ (e : verdict asks ≡ Ok tt) where
    pub claims_refuse : (x : Refusal) → verdict claims ≡ Err x → register r d ≡ refuses x []
    claims_refuse x f = refuses_with x (verdict_then asks (claims ++ room) e ∙ verdict_first claims room x f)

    module _ (f : verdict claims ≡ Ok tt) where
      all_early : verdict (registration_checks r d) ≡ verdict room
      all_early = verdict_then asks (claims ++ room) e ∙ verdict_then claims room f

      pub late_refuses : (x : Refusal) → verdict room ≡ Err x → register r d ≡ refuses x []
      late_refuses x g = refuses_with x (all_early ∙ g)

      pub all_pass : verdict room ≡ Ok tt → register r d ≡ adds (new_plugin r d) (r.next ∷ [])
      unfolding register
      all_pass g = checked_pass (registration_checks r d) _ (all_early ∙ g)
