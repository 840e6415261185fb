-- Demand 3, for every sequence of operations from a start; a fresh registry is one.
pub mod Kept
use Rattle.std.specs.Prelude.{ℕ, ◌≡◌, refl, true, false, not, List, [], ◌∷◌, ◌++◌, ◌≢◌, eqb, Option, Some, None}
use Rattle.std.proofs.Common.{arith, sym, ap, ◌∙◌, subst, true≢false, eqb-true}
use Rattle.std.proofs.Math.Path.{subst⁻¹}
use Rattle.std.proofs.lemmas.Bool.{eqb-false, not-true}
use Rattle.rules.specs.Basics.{all, same_numbers}
use Rattle.rules_types.specs.declared.Root.TheVariants.{Queued, Spent}
use Rattle.rules.specs.Holds.{Plugin, Registry, lookup, opened, with_root}
use Rattle.rules.specs.Refusals.{Retired, InvalidState, Stale}
use Rattle.rules.specs.Outcomes.{Answer, Refused, Accepted, Outcome, stores, answer_of, ◌⇒◌, checked, found}
use Rattle.rules.specs.Admission.{Invocation, five, receipt, is_live, call}
use Rattle.rules.specs.Steps.{Op, Call, Run, run, run_fresh, answer_to, go_on, go_on_with}
use Rattle.rules_laws.specs.History.{Told, registered, removed, replaced, settled, retired, admitted, called, told_at_start, story, stored, ends, Open}
use Rattle.rules_laws.specs.History.{refusal_for, Demand3}
use Rattle.rules_laws.specs.Laws.Tests.{by_test, both}
use Rattle.rules_laws.specs.Demand3.Link.{is_admission, live, Once, Agrees, Linked, Good}
use Rattle.rules_laws.specs.Demand3.Lives.{same_true, same_refl, would_accept, lives, not_callable, silent}
use Rattle.rules_laws.proofs.Demand3.Kept.{kept}
use Rattle.rules_laws.specs.Demand3.{Start, fresh_start}

-- The link holds at the start, and so after every sequence.
start_agrees : (d : ℕ) (t : Invocation) (u : Option Plugin) → ((p : Plugin) → u ≡ Some p → (v a : ℕ) → p.root ≢ Queued v a)
    → Agrees d t (told_at_start u) u
start_agrees d t None n = record { once = tt; gone = refl; dead = refl }
start_agrees d t (Some p) n =
    let dead = not_callable d p t (λ f. n p refl t.revision t.argument f.queued) in
    by_test p.retired
    (λ y. record {
      once = rw y refl;
      there = rw y;
      mark = rw y;
      kept = rw y;
      bound = λ v a e. absurd (n p refl v a e);
      alive = rw (dead, y);
    })
    (λ f. record {
      once = rw f refl;
      there = rw f;
      mark = rw f;
      kept = rw f;
      bound = λ v a e. absurd (n p refl v a e);
      alive = rw (dead, f);
    })

start_linked : (s : Registry) → Start s → Linked s [] s
unfolding story
start_linked s w = record {
  domain = refl;
  room = w.room;
  fresh = w.fresh;
  unborn = λ x l. rw (w.fresh x l);
  agrees = λ t. start_agrees s.domain t (lookup s t.id) (w.unqueued t.id);
}

pub one_linked : (s : Registry) (n : Run) (o : Op) → Linked s n.events n.registry → Linked s (go_on n o).events (go_on n o).registry
unfolding Good
one_linked s n o w = kept s n.events n.registry w o

on_linked : (s : Registry) (n : Run) (os : List Op) → Linked s n.events n.registry → Linked s (go_on_with n os).events (go_on_with n os).registry
on_linked s n [] w = w
on_linked s n (o ∷ os) w = on_linked s (go_on n o) os (one_linked s n o w)

pub run_linked : (s : Registry) → Start s → (ops : List Op) → Linked s (run s ops).events (run s ops).registry
run_linked s w ops = on_linked s (record { registry = s; events = [] }) ops (start_linked s w)

-- The computed reading of the story is the demanded one.
never_empty : (l m : List Told) (k : Told) → l ++ k ∷ m ≡ [] → ◌≡◌ {A = ℕ} 0 1
never_empty [] m k e = cc
never_empty (x ∷ l) m k e = cc

stored_quiet : (t : Invocation) (l m : List Told) → Once (l ++ admitted (five t) ∷ m) → all (λ k. not (ends t k)) l ≡ true
    → stored (l ++ admitted (five t) ∷ m) ≡ stored m
stored_quiet t [] m o e = refl
stored_quiet t (registered v ∷ l) m o e = let z = never_empty l m (admitted (five t)) o in omega arith
stored_quiet t (removed ∷ l) m o e = stored_quiet t l m o e
stored_quiet t (replaced v ∷ l) m o e = cc
stored_quiet t (settled ∷ l) m o e = cc
stored_quiet t (retired ∷ l) m o e = cc
stored_quiet t (admitted vs ∷ l) m o e = stored_quiet t l m o e
stored_quiet t (called vs ∷ l) m o e = stored_quiet t l m o (both (not (same_numbers vs (five t))) (all (λ k. not (ends t k)) l) e).1

once_tail : (k : Told) (h : List Told) → Once (k ∷ h) → Once h
once_tail (registered v) h o = subst⁻¹ (λ l. Once l) o tt
once_tail removed h o = o
once_tail (replaced v) h o = o
once_tail settled h o = o
once_tail retired h o = o
once_tail (admitted vs) h o = o
once_tail (called vs) h o = o

open_live : (t : Invocation) (l m : List Told) → Once (l ++ admitted (five t) ∷ m) → all (λ k. not (ends t k)) l ≡ true
    → live t (l ++ admitted (five t) ∷ m) ≡ Some (stored m)
open_live t [] m o e = rw (same_refl (five t))
open_live t (k ∷ l) m o e =
    let b = both (not (ends t k)) (all (λ k. not (ends t k)) l) e in
    let o' = once_tail k (l ++ admitted (five t) ∷ m) o in
    by_test (is_admission t k)
    (λ y. rw y (ap Some (stored_quiet t l m o' b.1)))
    (λ n. rw (n, not-true (ends t k) b.0) (open_live t l m o' b.1))

is_admission_lem : (t : Invocation) (k : Told) → is_admission t k ≡ true → k ≡ admitted (five t)
is_admission_lem t (admitted vs) e = ap admitted (same_true vs (five t) e)
is_admission_lem t (called vs) e = cc
is_admission_lem t (registered v) e = cc
is_admission_lem t removed e = cc
is_admission_lem t (replaced v) e = cc
is_admission_lem t settled e = cc
is_admission_lem t retired e = cc

deeper : (t : Invocation) (k : Told) (h : List Told) (v : ℕ) → ends t k ≡ false → Open t h v → Open t (k ∷ h) v
deeper t k h v m o = record {
  since = k ∷ o.since;
  before = o.before;
  answered = ap (λ h. k ∷ h) o.answered;
  quiet = rw (m, o.quiet);
  payload = o.payload;
}

live_open : (t : Invocation) (h : List Told) (v : ℕ) → live t h ≡ Some v → Open t h v
live_open t [] v e = let z : ◌≡◌ {A = ℕ} 0 1 = cc in absurd (omega arith)
live_open t (k ∷ h) v e =
    by_test (is_admission t k)
    (λ y. record {
      since = [];
      before = h;
      answered = ap (λ k. k ∷ h) (is_admission_lem t k y);
      quiet = refl;
      payload = let i : Some (stored h) ≡ Some v = rw y at e in cc;
    })
    (λ n. by_test (ends t k)
    (λ y. let i : None ≡ Some v = rw (n, y) at e in let z : ◌≡◌ {A = ℕ} 0 1 = cc in absurd (omega arith))
    (λ m. deeper t k h v m (live_open t h v (rw (n, m) at e))))

-- What a call answers, by the story.
abbrev verdict : ℕ → Invocation → List Told → Option ℕ → Answer
verdict d t h None = Refused (refusal_for d t h) []
verdict d t h (Some v) = Accepted (receipt t v)

-- the rule of the call, over the domain and what is found
abbrev call_rule : ℕ → Option Plugin → Invocation → Outcome
call_rule d u t =
    checked ((not (eqb t.domain d) ⇒ InvalidState) ∷ []) (found u λ p.
    checked ((p.retired ⇒ Retired) ∷ (not (is_live p t) ⇒ Stale) ∷ [])
    (stores (with_root Spent p) (receipt t p.payload)))

call_verdict : (d : ℕ) (t : Invocation) (h : List Told) (u : Option Plugin) → Agrees d t h u → answer_of (call_rule d u t) ≡ verdict d t h (live t h)
unfolding checked found
call_verdict d t h None a = by_test (eqb t.domain d)
    (λ y. rw (a.dead, y, a.gone))
    (λ n. rw (a.dead, n))
call_verdict d t h (Some p) a = by_test (eqb t.domain d)
    (λ y. by_test p.retired
    (λ m. let dead = silent d t h p a (not_callable d p t (λ f. absurd (true≢false (sym m ∙ f.retired)))) in
    rw (dead, y, m, a.there, a.mark ∙ m))
    (λ m. by_test (is_live p t)
    (λ l. rw (a.alive, would_accept d p t l m (eqb-true _ _ y), y, l, m))
    (λ l. let dead = silent d t h p a (not_callable d p t (λ f. absurd (true≢false (sym (lives d p t f) ∙ l)))) in
    rw (dead, y, l, m, a.there, a.mark ∙ m))))
    (λ n. let dead = silent d t h p a (not_callable d p t (λ f. eqb-false _ _ n f.domain)) in rw (dead, n))

once_of : (d : ℕ) (t : Invocation) (h : List Told) (u : Option Plugin) → Agrees d t h u → Once h
once_of d t h None a = a.once
once_of d t h (Some p) a = a.once

-- The computed verdict is what is demanded.
said : (d : ℕ) (t : Invocation) (h : List Told) (a : Answer) → Once h → a ≡ verdict d t h (live t h) → Demand3 d t h a
said d t h a o e = go (live t h) refl
  where
    opened_live : (v : ℕ) → Open t h v → live t h ≡ Some v
    opened_live v w = ap (live t) w.answered ∙ open_live t w.since w.before (subst (λ l. Once l) w.answered o) w.quiet ∙ ap Some w.payload

    go : (u : Option ℕ) → live t h ≡ u → Demand3 d t h a
    go None i = record {
      accepted = λ v w. let j = opened_live v w in cc;
      exactly = λ vs j. let z : ◌≡◌ {A = ℕ} 0 1 = cc in absurd (omega arith);
      refused = λ n. cc;
    }
    go (Some v) i = record {
      accepted = λ w q. let j = opened_live w q in cc;
      exactly = λ vs j. (v, live_open t h v i, (cc));
      refused = λ n. absurd (n v (live_open t h v i));
    }

-- Over any sequence of operations from a start, a call is accepted exactly if its admission is still live, by the history alone.
pub demand_3 : (s : Registry) → Start s → (ops : List Op) (t : Invocation)
    → Demand3 s.domain t (story s t.id (run s ops).events) (answer_to (run s ops).registry (Call t))
unfolding call
demand_3 s start ops t =
    let w = run_linked s start ops in
    let r = (run s ops).registry in
    let h = story s t.id (run s ops).events in
    let u = lookup r t.id in
    said s.domain t h (answer_to r (Call t)) (once_of s.domain t h u (w.agrees t))
    (ap (λ x. answer_of (call_rule x u t)) w.domain ∙ call_verdict s.domain t h u (w.agrees t))

-- Over any sequence of operations on one fresh registry.
pub demand_3_fresh : (d f : ℕ) (ops : List Op) (t : Invocation)
    → Demand3 d t (story (opened d f) t.id (run_fresh d f ops).events) (answer_to (run_fresh d f ops).registry (Call t))
demand_3_fresh d f ops t = demand_3 (opened d f) (fresh_start d f) ops t
