-- What links a registry to its history since a start: the invariant of demand 3, and how each kind of outcome keeps it.
use Rattle.std.specs.Prelude.{ℕ, ◌≤◌, ◌<◌, ◌≡◌, Bool, true, false, not, ◌&&◌, List, [], ◌∷◌, eqb, leb, length, Option, Some, None}
use Rattle.std.proofs.Common.{arith, le_refl, sym, ap, ◌∙◌, subst₂}
use Rattle.std.proofs.Math.Path.{refl, subst⁻¹}
use borrow.Author.Tests.{eqb-true, eqb-false, eq-eqb, ne_eqb, leb-true, leb-false}
use Rattle.rules.specs.Basics.{pick, same_numbers}
use Rattle.rules_types.specs.declared.Root.TheVariants.{Queued}
use Rattle.rules.specs.Holds.{Plugin, Registry, lookup, count}
use Rattle.rules.specs.Refusals.{Refusal, number}
use Rattle.rules.specs.Outcomes.{Answer, Refused, Accepted, Reply, refusing, accepting, Outcome, tells, refuses, answers, writes, stores, adds, removes}
use Rattle.rules.specs.Outcomes.{answer_of, after, lent_after}
use Rattle.rules.specs.Admission.{Invocation, five, is_live}
use Rattle.rules.specs.Steps.{Op, Event, lent}
use Rattle.rules_laws.specs.History.{Told, registered, removed, replaced, settled, retired, admitted, called, of, told, noted, story, stored}
use Rattle.rules_laws.specs.History.{is_registered, is_retired, ends}
use Rattle.rules_laws.specs.Laws.Tests.{by_test}
use Rattle.rules_laws.specs.Laws.Lookups.{stored_same, stored_other, freed_same, freed_other, added_same, added_other, length_stored, length_freed}
use Rattle.rules_laws.specs.Laws.Lookups.{length_added}
use Rattle.rules.specs.Limits.{max_plugins}

abbrev pub is_admission : Invocation → Told → Bool
is_admission t (admitted vs) = same_numbers vs (five t)
is_admission t (called vs) = false
is_admission t (registered v) = false
is_admission t removed = false
is_admission t (replaced v) = false
is_admission t settled = false
is_admission t retired = false

-- the payload stored at the admission of these five numbers, if nothing has ended it since
abbrev pub live : Invocation → List Told → Option ℕ
live t [] = None
live t (k ∷ h) = pick (is_admission t k) (Some (stored h)) (pick (ends t k) None (live t h))

-- whether the registry's own rules accept the call
unfoldable pub callable : ℕ → Plugin → Invocation → Bool
callable d p t = is_live p t && not p.retired && eqb t.domain d

-- a plugin is registered once: that stands at the very beginning of its story
abbrev pub Once : List Told → Type 0
Once [] = Unit {0}
Once (registered v ∷ h) = h ≡ []
Once (removed ∷ h) = Once h
Once (replaced v ∷ h) = Once h
Once (settled ∷ h) = Once h
Once (retired ∷ h) = Once h
Once (admitted vs ∷ h) = Once h
Once (called vs ∷ h) = Once h

pub record Absent (t : Invocation) (h : List Told) : Type 0 where
  pub once : Once h
  pub gone : is_registered h ≡ false
  pub dead : live t h ≡ None

pub record Present (d : ℕ) (t : Invocation) (h : List Told) (p : Plugin) : Type 0 where
  pub once : Once h
  pub there : is_registered h ≡ true
  pub mark : is_retired h ≡ p.retired
  pub kept : stored h ≡ p.payload
  pub bound : (v a : ℕ) → p.root ≡ Queued v a → v ≤ p.revision
  pub alive : live t h ≡ pick (callable d p t) (Some p.payload) None

abbrev pub Agrees : ℕ → Invocation → List Told → Option Plugin → Type 0
Agrees d t h None = Absent t h
Agrees d t h (Some p) = Present d t h p

-- A registry r after the events es since the start s.
pub record Linked (s : Registry) (es : List Event) (r : Registry) : Type 0 where
  pub domain : r.domain ≡ s.domain
  pub room : length r.places ≡ max_plugins
  pub fresh : (x : ℕ) → r.next ≤ x → lookup r x ≡ None
  pub unborn : (x : ℕ) → r.next ≤ x → story s x es ≡ []
  pub agrees : (t : Invocation) → Agrees s.domain t (story s t.id es) (lookup r t.id)

abbrev pub saying : Op → Answer → List ℕ → Event
saying o a l = record { op = o; answer = a; lent = l }

-- the operation o, coming to the outcome u, keeps the link
unfoldable pub Good : Registry → List Event → Registry → Op → Outcome → Type 0
Good s es r o u = Linked s (saying o (answer_of u) (lent_after (lent o) u) ∷ es) (after r u)

-- what an event adds to the story of the plugin id, and that it adds nothing to others
pub record Tells (s : Registry) (o : Op) (a : Answer) (id : ℕ) (add : List Told → List Told) : Type 0 where
  pub here : (l : List ℕ) (es : List Event) → story s id (saying o a l ∷ es) ≡ add (story s id es)
  pub other : (l : List ℕ) (es : List Event) (x : ℕ) → eqb id x ≡ false → story s x (saying o a l ∷ es) ≡ story s x es

pub tells_one : (s : Registry) (o : Op) (a : Answer) (id : ℕ) (k : Told) → noted o a ≡ of id k → Tells s o a id (λ h. k ∷ h)
unfolding story
tells_one s o a id k n = record {
  here = λ l es. rw (n, eq-eqb id id refl);
  other = λ l es x f. rw (n, f);
}

pub tells_none : (s : Registry) (o : Op) (a : Answer) (id : ℕ) → noted o a ≡ None → Tells s o a id (λ h. h)
unfolding story
tells_none s o a id n = record {
  here = λ l es. rw n;
  other = λ l es x f. rw n;
}

module _ (s : Registry) (es : List Event) (r : Registry) (w : Linked s es r) where
  pub below : (id : ℕ) (p : Plugin) → lookup r id ≡ Some p → id < r.next
  below id p e = by_test (leb r.next id)
      (λ y. let h = w.fresh id (leb-true r.next id y) in let z : ◌≡◌ {A = ℕ} 0 1 = cc in omega arith)
      (λ n. leb-false r.next id n)

  -- One plugin is touched: of every other one nothing is told, and nothing changes.
  pub touches : (o : Op) (a : Answer) (l : List ℕ) (id : ℕ) (add : List Told → List Told) (r' : Registry) (u u' : Option Plugin) → Tells s o a id add
      → r'.domain ≡ r.domain → length r'.places ≡ length r.places → r.next ≤ r'.next → id < r'.next
      → lookup r id ≡ u → lookup r' id ≡ u' → ((x : ℕ) → eqb id x ≡ false → lookup r' x ≡ lookup r x)
      → ((t : Invocation) → id ≡ t.id → Agrees s.domain t (story s id es) u → Agrees s.domain t (add (story s id es)) u')
      → Linked s (saying o a l ∷ es) r'
  touches o a l id add r' u u' k di le ne lt e e' other here =
      let d = s.domain in
      let apart : (x : ℕ) → r'.next ≤ x → eqb id x ≡ false = λ x y. ne_eqb id x (λ i. omega arith) in
      record {
        domain = di ∙ w.domain;
        room = le ∙ w.room;
        fresh = λ x y. other x (apart x y) ∙ w.fresh x (omega arith);
        unborn = λ x y. k.other l es x (apart x y) ∙ w.unborn x (omega arith);
        agrees = λ t. by_test (eqb id t.id)
            (λ y. let j = eqb-true id t.id y in
            let was : Agrees d t (story s id es) u = subst₂ (λ x v. Agrees d t (story s x es) v) (sym j) (ap (lookup r) (sym j) ∙ e) (w.agrees t) in
            subst₂ (λ x v. Agrees d t x v) (sym (k.here l es) ∙ ap (λ x. story s x (saying o a l ∷ es)) j) (sym e' ∙ ap (lookup r') j) (here t j was))
            (λ n. subst₂ (λ x v. Agrees d t x v) (sym (k.other l es t.id n)) (sym (other t.id n)) (w.agrees t));
      }

  -- nothing is told, and nothing changes
  pub still : (o : Op) (a : Answer) (l : List ℕ) → noted o a ≡ None → Linked s (saying o a l ∷ es) r
  still o a l n =
      let k : (x : ℕ) → Tells s o a x (λ h. h) = λ x. tells_none s o a x n in
      record {
        domain = w.domain;
        room = w.room;
        fresh = w.fresh;
        unborn = λ x y. (k x).here l es ∙ w.unborn x y;
        agrees = λ t. subst⁻¹ (λ h. Agrees s.domain t h (lookup r t.id)) ((k t.id).here l es) (w.agrees t);
      }

  pub refused : (o : Op) (x : Refusal) (vs : List ℕ) → Good s es r o (refuses x vs)
  unfolding Good after
  refused o x vs = still o (Refused (number x) vs) _ refl

  -- nothing of a plugin is told, and nothing changes
  pub quiet : (o : Op) (a : Reply) → ((vs : List ℕ) → told o vs ≡ None) → Good s es r o (tells a)
  unfolding Good after
  quiet o (refusing x vs) n = still o (Refused (number x) vs) _ refl
  quiet o (accepting vs) n = still o (Accepted vs) _ (n vs)

  pub wrote : (o : Op) (place : ℕ) (l vs : List ℕ) → told o vs ≡ None → Good s es r o (writes place l vs)
  unfolding Good after
  wrote o place l vs n = still o (Accepted vs) _ n

  pub answered_absent : (o : Op) (vs : List ℕ) (id : ℕ) (k : Told) → told o vs ≡ of id k → lookup r id ≡ None → id < r.next
      → ((t : Invocation) (h : List Told) → Absent t h → Absent t (k ∷ h)) → Good s es r o (answers vs)
  unfolding Good after
  answered_absent o vs id k n e l f =
      touches o (Accepted vs) _ id (λ h. k ∷ h) r None None (tells_one s o (Accepted vs) id k n) refl refl (le_refl _) l e e (λ x y. refl) (λ t i a. f t _ a)

  pub stored_one : (o : Op) (vs : List ℕ) (id : ℕ) (p q : Plugin) (add : List Told → List Told) → Tells s o (Accepted vs) id add
      → lookup r id ≡ Some p → q.id ≡ id
      → ((t : Invocation) (h : List Told) → id ≡ t.id → Present s.domain t h p → Present s.domain t (add h) q)
      → Good s es r o (stores q vs)
  unfolding Good after lookup
  stored_one o vs id p q add k e i f =
      touches o (Accepted vs) _ id add (after r (stores q vs)) (Some p) (Some q) k refl (length_stored r.places q) (le_refl _) (below id p e)
      e (stored_same id r.places p q i e)
      (λ x n. stored_other x r.places q (ne_eqb q.id x (λ h. eqb-false id x n (sym i ∙ h))))
      (λ t j a. f t _ j a)

  pub added_one : (o : Op) (vs : List ℕ) (q : Plugin) (k : Told) → told o vs ≡ of q.id k → q.id ≡ r.next → count r < max_plugins
      → ((t : Invocation) → Present s.domain t (k ∷ []) q) → Good s es r o (adds q vs)
  unfolding Good after lookup count
  added_one o vs q k n i l f =
      let e = w.fresh q.id (omega arith) in
      touches o (Accepted vs) _ q.id (λ h. k ∷ h) (after r (adds q vs)) None (Some q) (tells_one s o (Accepted vs) q.id k n)
      refl (length_added r.places q) (omega arith) (omega arith)
      e (added_same r.places q e (omega (arith, w.room)))
      (λ x y. added_other x r.places q y)
      (λ t j a. subst⁻¹ (λ h. Present s.domain t (k ∷ h) q) (w.unborn q.id (omega arith)) (f t))

  pub removed_one : (o : Op) (vs : List ℕ) (id : ℕ) (p : Plugin) (k : Told) → told o vs ≡ of id k → lookup r id ≡ Some p
      → ((t : Invocation) (h : List Told) → Present s.domain t h p → Absent t (k ∷ h)) → Good s es r o (removes id vs)
  unfolding Good after lookup
  removed_one o vs id p k n e f =
      touches o (Accepted vs) _ id (λ h. k ∷ h) (after r (removes id vs)) (Some p) None (tells_one s o (Accepted vs) id k n)
      refl (length_freed r.places id) (le_refl _) (below id p e)
      e (freed_same id r.places)
      (λ x y. freed_other id x r.places y)
      (λ t j a. f t _ a)
