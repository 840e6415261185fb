-- Upstream's clauses on R's replacement.
use Rattle.std.specs.Prelude.{ℕ, ◌+◌, ◌≤◌, ◌≡◌, refl, true, false, [], ◌∷◌, eqb, ltb, leb, Some}
use Rattle.std.proofs.Common.{add-one, sym, true≢false}
use Rattle.rules.specs.Basics.{yes_no, last}
use Rattle.rules.specs.Holds.{Plugin, Registry, lookup, with_revision, with_payload}
use Rattle.rules.specs.Refusals.{Refusal, number, Unknown}
use Rattle.rules.specs.Outcomes.{Refused, Accepted, Outcome, refuses, stores, answer_of, checked, found, handing_back}
use Rattle.rules.specs.Replacement.{replace, fits}
use Rattle.rules_laws.specs.Laws.Tests.{by_test, checked_elim, found_elim}
use Rattle.rules_laws.specs.Kept.Plugins.{alike}
use Rattle.rules_upstream.specs.Accepted.{accepted, below, Effect, When, has_effect}

module _ (r : Registry) where
  -- R can_replace_count: yes exactly if revision + count is not above the last number.
  pub can_replace_count : (id n : ℕ) (p : Plugin) → lookup r id ≡ Some p → answer_of (fits r id n) ≡ Accepted (yes_no (leb (p.revision + n) last) ∷ [])
  unfolding fits found
  can_replace_count id n p e = rw e

  -- R can_replace: the same with count 1; yes exactly if the revision is below the last number.
  pub can_replace : (id : ℕ) (p : Plugin) → lookup r id ≡ Some p → answer_of (fits r id 1) ≡ Accepted (yes_no (ltb p.revision last) ∷ [])
  can_replace id p e = rw add-one at (can_replace_count id 1 p e)

  -- R replace: accepted exactly if the revision is below the last number (where Built holds none is above it);
  pub replace_exactly : (id v : ℕ) (p : Plugin) → lookup r id ≡ Some p → p.revision ≤ last → accepted (replace r id v) ≡ ltb p.revision last
  unfolding replace found checked handing_back
  replace_exactly id v p e l = rw (e, ← (below p.revision last l)) (by_test (eqb p.revision last) (λ y. rw y) (λ n. rw n))

  -- what a replacement comes to
  replaced : (P : Outcome → Type 0) (id v : ℕ) → ((x : Refusal) → P (refuses x (v ∷ [])))
      → ((p : Plugin) → lookup r id ≡ Some p → P (stores (with_revision (p.revision + 1) (with_payload v p)) (p.payload ∷ []))) → P (replace r id v)
  unfolding replace handing_back
  replaced P id v f g = found_elim (λ u. P (handing_back v u)) (lookup r id) _ (f Unknown) λ p e. checked_elim (λ u. P (handing_back v u)) _ _ f (λ _. g p e)

  -- .. it answers the former payload; payload and revision alone change.
  pub replace_effect : (id v : ℕ) → When (Effect r id (λ p. p.payload ∷ []) (λ p. with_revision (p.revision + 1) (with_payload v p))) (replace r id v)
  replace_effect id v = replaced (When (Effect r id _ _)) id v (λ x t. absurd (true≢false (sym t))) (λ p e t. has_effect r id _ _ p e (alike p refl))

  -- .. a refusal answers the offered payload (and changes nothing: Demand1).
  pub replace_refused : (id v : ℕ) → accepted (replace r id v) ≡ false → (n : ℕ) × (answer_of (replace r id v) ≡ Refused n (v ∷ []))
  replace_refused id v = replaced (λ u. accepted u ≡ false → (n : ℕ) × (answer_of u ≡ Refused n (v ∷ []))) id v
      (λ x f. (number x, refl)) (λ p e f. absurd (true≢false f))
