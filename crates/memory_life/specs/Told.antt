-- What an operation that stores a life answers and leaves, once the rule's outcome is known.
use Rattle.std.specs.Prelude.{ℕ, ◌%◌, ◌≡◌, List, [], Result, Err, IsErrAnd, ok_or, Option, Some, None}
use Rattle.std.proofs.Common.{sym, ap, ◌∙◌}
use Rattle.std.proofs.lemmas.Result.{err_from_is_err_and}
use Rattle.rules.specs.Holds.{Plugin}
use Rattle.rules.specs.Refusals.{Refusal, number, Unknown}
use Rattle.rules.specs.Outcomes.{Refused, Accepted, Outcome, refuses, answers, stores, known, Meets}
use Rattle.rules.specs.Answers.{answered}
use Rattle.memory.specs.Ways.{Way, left_by, meets_refused}
use Rattle.memory.specs.View.{life_at, plugin_at, view}
use Rattle.memory.specs.Writes.{find_at, put_life}
use Rattle.memory.specs.Frames.{with_life}
use Rattle.memory.specs.Known.{at_place, none_known, not_found, storing, stored_life, stored_at_lem}
use Rattle.memory.specs.declared.Life.{Life}
use Rattle.memory.specs.Layout.{places}

pub told_refused : (o : Outcome) (m : List ℕ) (x : Refusal) (vs : List ℕ) → o ≡ refuses x vs → Meets stored_life o m (Refused (number x) vs) m
told_refused = meets_refused storing

-- A refusal of a callee handed on, whatever the way; and that of a look-up.
pub handed_on : (w : Way) {T : Type 0} (f : T → List ℕ) (r : Result T Refusal) (o : Outcome) (m : List ℕ) (x : Refusal) → IsErrAnd r (λ y. y ≡ x)
    → o ≡ refuses x [] → Meets (left_by w) o m (answered f r) m
handed_on w f r o m x e k = let p = err_from_is_err_and r e in rw (p.1, p.2) (meets_refused w o m x [] k)

-- of what is absent
pub handed_none : (w : Way) {T A : Type 0} (f : T → List ℕ) (r : Result T Refusal) (o : Outcome) (m : List ℕ) (x : Refusal) (c : Option A) (y : Refusal)
    → IsErrAnd r (λ z. z ≡ x) → ◌≡◌ {A = Result A Refusal} (Err x) (ok_or c y) → c ≡ None → o ≡ refuses y [] → Meets (left_by w) o m (answered f r) m
handed_none w f r o m x c y e u n k =
    let g = rw n at u in
    let j : x ≡ y = cc in
    handed_on w f r o m x e (rw j k)

pub told_unknown : (w : Way) {T : Type 0} (f : T → List ℕ) (r : Result T Refusal) (m : List ℕ) (id : ℕ) (x : Refusal) → IsErrAnd r (λ y. y ≡ x)
    → ◌≡◌ {A = Result ℕ Refusal} (Err x) (ok_or (find_at m id) Unknown) → (g : Plugin → Outcome) → Meets (left_by w) (known (view m) id g) m (answered f r) m
told_unknown w f r m id x e u g =
    let n = not_found m id x u in
    handed_on w f r (known (view m) id g) m x e (rw n.1 (none_known m id n.0 g))

pub told_same : (o : Outcome) (m vs : List ℕ) → o ≡ answers vs → Meets stored_life o m (Accepted vs) m
unfolding left_by
told_same o m vs e = (rw e, rw e)

-- the life of a found plugin, as it was loaded
pub life_found : (m : List ℕ) (id i : ℕ) → find_at m id ≡ Some i → (l : Life) → l ≡ life_at m (i % places) → l ≡ life_at m i
life_found m id i e l h = h ∙ ap (life_at m) (at_place m id i e)

pub generation_found : (m : List ℕ) (id i : ℕ) → find_at m id ≡ Some i → (l : Life) → l ≡ life_at m (i % places) → (plugin_at m i).generation ≡ l.generation.0
unfolding plugin_at
generation_found m id i e l h = sym (ap (λ (x : Life). x.generation.0) (life_found m id i e l h))

-- a found plugin's life was stored
pub told_stored : (o : Outcome) (m : List ℕ) (id i : ℕ) (vs : List ℕ) (l : Life) (m' : List ℕ) → find_at m id ≡ Some i
    → o ≡ stores (with_life (plugin_at m i) l) vs → m' ≡ put_life m (i % places) l → Meets stored_life o m (Accepted vs) m'
told_stored o m id i vs l m' e k p =
    (rw k, rw k (p ∙ ap (λ j. put_life m j l) (at_place m id i e) ∙ sym (stored_at_lem m id i e l vs)))
