-- A record of revision and payload, what a replacement makes of it, and whether a count of them fits.
use Rattle.std.specs.Prelude.{ℕ, ◌+◌, ◌-◌, ◌≤◌, ◌≡◌, ◌≢◌, Bool, true, false, eqb, leb, Result, Ok, Err}
use Rattle.std.proofs.Common.{arith, sym, ◌∙◌, eq-eqb, ne_eqb, le-leb, leb-true, leb-false}
use Rattle.std.proofs.lemmas.Bool.{lt-leb}
use Rattle.rules.specs.Basics.{pick, last}
use Rattle.rules.specs.Refusals.{Exhausted}
use Rattle.rules_laws.specs.Laws.Tests.{by_test}
use Rattle.memory.specs.declared.Life.{Life}
use Rattle.registry_replace.specs.declared.PayloadRecord.{PayloadRecord}
use Rattle.registry_replace.specs.declared.Change.{Change}
use Rattle.registry_replace.specs.declared.Unreplaced.{Unreplaced}
use Rattle.registry_replace.specs.Answers.{unreplaced}

-- At the last revision nothing changes; else the former payload is answered.
abbrev pub change_of : PayloadRecord → ℕ → Change
change_of r v =
    pick (eqb r.revision last)
    (record { next = r; answer = Err (unreplaced Exhausted v) })
    (record { next = record { revision = r.revision + 1; payload = v }; answer = Ok r.payload })

module _ (r : PayloadRecord) (v : ℕ) where
  pub change_last : r.revision ≡ last → change_of r v ≡ record { next = r; answer = Err (unreplaced Exhausted v) }
  change_last t = rw (eq-eqb r.revision last t)

  pub change_next : r.revision ≢ last → change_of r v ≡ record { next = record { revision = r.revision + 1; payload = v }; answer = Ok r.payload }
  change_next n = rw (ne_eqb r.revision last n)

  -- what the answer says of the revision
  pub was_last : (u : Unreplaced) → Err u ≡ (change_of r v).answer → (eqb r.revision last ≡ true) × (u ≡ unreplaced Exhausted v)
  was_last u a = by_test (eqb r.revision last)
      (λ t. let g : ◌≡◌ {A = Result ℕ Unreplaced} (Err u) (Err (unreplaced Exhausted v)) = rw t at a in (t, cc))
      (λ f. let g : ◌≡◌ {A = Result ℕ Unreplaced} (Err u) (Ok r.payload) = rw f at a in cc)

  pub not_last : (p : ℕ) → Ok p ≡ (change_of r v).answer → (eqb r.revision last ≡ false) × (p ≡ r.payload)
  not_last p a = by_test (eqb r.revision last)
      (λ t. let g : ◌≡◌ {A = Result ℕ Unreplaced} (Ok p) (Err (unreplaced Exhausted v)) = rw t at a in cc)
      (λ f. let g : ◌≡◌ {A = Result ℕ Unreplaced} (Ok p) (Ok r.payload) = rw f at a in (f, cc))

abbrev pub record_of : Life → PayloadRecord
record_of l = record { revision = l.revision; payload = l.payload }

-- a count fits behind a revision: no more than the revisions that are left
abbrev pub fits_behind : ℕ → ℕ → Bool
fits_behind revision count = leb count (last - revision)

module _ (r n : ℕ) where
  pub fits_sum : r ≤ last → fits_behind r n ≡ leb (r + n) last
  fits_sum h = by_test (leb n (last - r))
      (λ t. t ∙ sym (le-leb (r + n) last (omega (arith, leb-true n (last - r) t))))
      (λ f. f ∙ sym (lt-leb (r + n) last (omega (arith, leb-false n (last - r) f))))
