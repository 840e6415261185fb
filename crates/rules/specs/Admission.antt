-- Document 01, "Admission and call".
use Rattle.std.specs.Prelude.{ℕ, Bool, true, false, not, ◌&&◌, ◌||◌, List, [], ◌∷◌, eqb}
use Rattle.rules.specs.Basics.{yes_no}
use Rattle.rules.specs.Holds.{Plugin, Registry, is_loading, Root, Unissued, Queued, Spent, with_root}
use Rattle.rules.specs.Refusals.{Retired, InvalidState, Stale}
use Rattle.rules.specs.Outcomes.{Answer, Refused, Accepted, Outcome, answers, stores, answer_of, Check, ◌⇒◌, checked, known}
use Rattle.rules.specs.Phases.{setup}

pub record Ticket : Type 0 where
  pub domain : ℕ
  pub id : ℕ
  pub generation : ℕ
  pub kind : ℕ

-- The five numbers that an admission answers and a call takes.
pub record Invocation : Type 0 where
  pub domain : ℕ
  pub id : ℕ
  pub generation : ℕ
  pub revision : ℕ
  pub argument : ℕ

abbrev pub five : Invocation → List ℕ
five t = t.domain ∷ t.id ∷ t.generation ∷ t.revision ∷ t.argument ∷ []

abbrev pub is_unissued : Root → Bool
is_unissued Unissued = true
is_unissued (Queued v a) = false
is_unissued Spent = false

-- What admission asks of a found plugin: whether it is retired, Loading, of the ticket's generation, and its root Unissued.
abbrev pub admission_checks : Bool → Bool → Bool → Bool → List Check
admission_checks retired loading same unissued =
    (retired ⇒ Retired)
    ∷ (not loading || not same ⇒ Stale)
    ∷ (not unissued ⇒ InvalidState)
    ∷ []

-- Admission: domain or kind 3, then 1, 2, then 13 if not Loading or another generation, then 3 if root isn't Unissued.
unfoldable pub admit : Registry → Ticket → ℕ → Outcome
admit r t a =
    checked ((not (eqb t.domain r.domain) || not (eqb t.kind setup) ⇒ InvalidState) ∷ []) (known r t.id λ p.
    checked (admission_checks p.retired (is_loading p.phase) (eqb p.generation t.generation) (is_unissued p.root))
    (stores (with_root (Queued p.revision a) p) (r.domain ∷ p.id ∷ p.generation ∷ p.revision ∷ a ∷ [])))

abbrev pub is_accepted : Answer → Bool
is_accepted (Refused n vs) = false
is_accepted (Accepted vs) = true

-- Whether a ticket would be admitted (R's accepts_root_invocation).
unfoldable pub admits : Registry → Ticket → Outcome
admits r t = answers (yes_no (is_accepted (answer_of (admit r t 0))) ∷ [])

-- Queued with this revision and argument
abbrev pub is_queued : Root → ℕ → ℕ → Bool
is_queued Unissued v a = false
is_queued (Queued w b) v a = eqb w v && eqb b a
is_queued Spent v a = false

-- Loading, Queued, and generation, current revision, queued revision and argument all agree.
unfoldable pub is_live : Plugin → Invocation → Bool
is_live p t =
    is_loading p.phase && is_queued p.root t.revision t.argument
    && eqb p.generation t.generation && eqb p.revision t.revision

-- (domain, id, generation, request 0, payload, argument)
abbrev pub receipt : Invocation → ℕ → List ℕ
receipt t payload = t.domain ∷ t.id ∷ t.generation ∷ 0 ∷ payload ∷ t.argument ∷ []

-- Call: domain 3, 1, 2, then 13 unless it is live; root becomes Spent and nothing else changes.
unfoldable pub call : Registry → Invocation → Outcome
call r t =
    checked ((not (eqb t.domain r.domain) ⇒ InvalidState) ∷ []) (known r t.id λ p.
    checked ((p.retired ⇒ Retired) ∷ (not (is_live p t) ⇒ Stale) ∷ [])
    (stores (with_root Spent p) (receipt t p.payload)))
