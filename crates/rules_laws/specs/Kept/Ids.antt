-- The ids that accepted registrations answer.
use Rattle.std.specs.Prelude.{ℕ, zero, suc, ◌+◌, ◌≡◌, List, [], ◌∷◌, ◌++◌, length, get_or}
use Rattle.std.proofs.Common.{arith}
use Rattle.rules.specs.Outcomes.{Answer, Refused, Accepted}
use Rattle.rules.specs.Steps.{Event}
use Rattle.rules_laws.specs.Acts.{Act, joins, leaves, begins, stays, act}

-- the id that an accepted registration answered; nothing else issues one
abbrev pub issued_by : Answer → Act → List ℕ
issued_by (Refused n vs) a = []
issued_by (Accepted vs) (joins d) = get_or vs 0 0 ∷ []
issued_by (Accepted vs) (leaves id) = []
issued_by (Accepted vs) (begins id) = []
issued_by (Accepted vs) stays = []

-- of all events, the latest first
abbrev pub issued_ids : List Event → List ℕ
issued_ids [] = []
issued_ids (e ∷ es) = issued_by e.answer (act e.op) ++ issued_ids es

-- the n numbers from m on, the highest first
abbrev pub countdown : ℕ → ℕ → List ℕ
countdown m zero = []
countdown m (suc n) = (m + n) ∷ countdown m n

-- From next id m to next id n those ids were issued, the latest first.
pub record Rise (m n : ℕ) (issued : List ℕ) : Type 0 where
  pub next : n ≡ m + length issued
  pub ids : issued ≡ countdown m (length issued)

module _ (m n : ℕ) (issued new : List ℕ) (r : Rise m n issued) where
  pub none_issued : new ≡ [] → Rise m n (new ++ issued)
  none_issued e = rw e r

  pub one_issued : new ≡ n ∷ [] → Rise m (n + 1) (new ++ issued)
  one_issued e = rw e record {
    next = let i = r.next in omega arith;
    ids = let i = r.next in let j = r.ids in cc;
  }
