-- No operation changes the domain or the first id, and only begin changes a generation: in one step and in any run.
use Rattle.std.specs.Prelude.{ℕ, ◌+◌, ◌≤◌, refl, true, false, List, [], ◌∷◌, eqb, Option, Some, None}
use Rattle.std.proofs.Common.{arith, ◌∙◌}
use Rattle.std.proofs.Math.Path.{◌≡◌, sym, ap}
use borrow.Author.Tests.{eqb-true, ne_eqb}
use Rattle.rules.specs.Basics.{yes_no, last}
use Rattle.rules.specs.Holds.{Plugin, Registry, lookup, opened, never_begun}
use Rattle.rules.specs.Outcomes.{Answer, Refused, Accepted, Outcome, tells, refusing, accepting, writes, stores, adds, removes, answer_of, after}
use Rattle.rules.specs.Registration.{new_plugin}
use Rattle.rules.specs.Steps.{Op, Event, Run, step, answer_to, after_step, go_on, go_on_with, run, run_fresh}
use Rattle.rules_laws.specs.Acts.{Act, joins, leaves, begins, stays, act}
use Rattle.rules_laws.specs.Laws.Tests.{by_test}
use Rattle.rules_laws.specs.Built.{Built}
use Rattle.rules_laws.specs.Kept.{opened_built, step_built}
use Rattle.rules_laws.specs.Kept.Places.{only_stored, only_freed}
use Rattle.rules_laws.specs.Kept.Moves.{Join, fresh, join_only}
use Rattle.rules_laws.specs.Kept.Operations.{Dated, Lawful, lawful}

-- The domain and the first id, of any registry.
outcome_domain : (r : Registry) (u : Outcome) → ((after r u).domain ≡ r.domain) × ((after r u).first ≡ r.first)
unfolding after
outcome_domain r (tells a) = (refl, refl)
outcome_domain r (writes place l vs) = (refl, refl)
outcome_domain r (stores q vs) = (refl, refl)
outcome_domain r (adds q vs) = (refl, refl)
outcome_domain r (removes id vs) = (refl, refl)

pub domain_stays : (r : Registry) (o : Op) → (after_step r o).domain ≡ r.domain
domain_stays r o = (outcome_domain r (step r o)).0

pub first_stays : (r : Registry) (o : Op) → (after_step r o).first ≡ r.first
first_stays r o = (outcome_domain r (step r o)).1

on_domain : (s : Run) (os : List Op) → ((go_on_with s os).registry.domain ≡ s.registry.domain) × ((go_on_with s os).registry.first ≡ s.registry.first)
on_domain s [] = (refl, refl)
on_domain s (o ∷ os) =
    let h = on_domain (go_on s o) os in
    (h.0 ∙ domain_stays s.registry o, h.1 ∙ first_stays s.registry o)

pub run_domain_stays : (r : Registry) (ops : List Op) → (run r ops).registry.domain ≡ r.domain
run_domain_stays r ops = (on_domain (record { registry = r; events = [] }) ops).0

pub run_first_stays : (r : Registry) (ops : List Op) → (run r ops).registry.first ≡ r.first
run_first_stays r ops = (on_domain (record { registry = r; events = [] }) ops).1

-- How often an operation began plugin x: once if it is an accepted begin of x, else never.
abbrev pub begun_by : ℕ → Answer → Act → ℕ
begun_by x (Refused n vs) a = 0
begun_by x (Accepted vs) (begins id) = yes_no (eqb id x)
begun_by x (Accepted vs) (joins d) = 0
begun_by x (Accepted vs) (leaves id) = 0
begun_by x (Accepted vs) stays = 0

-- The accepted begins of plugin x among some events.
abbrev pub times_begun : ℕ → List Event → ℕ
times_begun x [] = 0
times_begun x (e ∷ es) = begun_by x e.answer (act e.op) + times_begun x es

-- the generation under an id; that of a plugin not yet registered is the one that it will begin with
abbrev pub generation_in : Option Plugin → ℕ
generation_in None = never_begun
generation_in (Some p) = p.generation

-- The generation under x was g, and x was begun n times since.
pub record Begun (x g n : ℕ) (r : Registry) : Type 0 where
  pub unborn : r.next ≤ x → g + n ≡ never_begun
  pub counts : (q : Plugin) → lookup r x ≡ Some q → q.generation ≡ g + n

module _ (r : Registry) (b : Built r) (x g n : ℕ) (h : Begun x g n r) where
  -- a registered id is not from next on
  older : (id : ℕ) (p : Plugin) → lookup r id ≡ Some p → r.next ≤ x → eqb id x ≡ false
  older id p e l = ne_eqb id x λ i.
      let f : lookup r x ≡ Some p = ap (lookup r) (sym i) ∙ e in
      let k = fresh r b x l in
      let z : ◌≡◌ {A = ℕ} 0 1 = cc in
      omega arith

  -- where plugin p turns into q
  turns : (vs : List ℕ) (p q : Plugin) → lookup r q.id ≡ Some p → (m : ℕ)
      → (eqb q.id x ≡ true → q.generation ≡ p.generation + m) → (eqb q.id x ≡ false → m ≡ 0) → Begun x g (m + n) (after r (stores q vs))
  unfolding after
  turns vs p q e m same other =
      let o = only_stored r vs p q e in
      record {
        unborn = λ l. let i = other (older q.id p e l) in let k = h.unborn l in omega arith;
        counts = λ s f. by_test (eqb q.id x)
            (λ y. let i = eqb-true q.id x y in
            let j : q ≡ s = some_is (sym o.now ∙ ap (lookup (after r (stores q vs))) i ∙ f) in
            let k = h.counts p (ap (lookup r) (sym i) ∙ e) in
            let w = same y in
            let v = ap (λ (a : Plugin). a.generation) j in
            omega arith)
            (λ d. let k = h.counts s (sym (o.other x d) ∙ f) in let i = other d in omega arith);
      }
    where
      some_is : {a c : Plugin} → Some a ≡ Some c → a ≡ c
      some_is i = cc

  turned : (a : Act) (vs : List ℕ) (p q : Plugin) → lookup r q.id ≡ Some p → Dated a p q → Begun x g (begun_by x (Accepted vs) a + n) (after r (stores q vs))
  turned (joins _) vs p q e h = elim h [ ]
  turned (leaves id) vs p q e h = elim h [ ]
  turned (begins id) vs p q e d = turns vs p q e (yes_no (eqb id x))
      (λ y. let i : eqb id x ≡ true = rw d.0 y in rw i d.1)
      (λ m. let i : eqb id x ≡ false = rw d.0 m in rw i)
  turned stays vs p q e d = turns vs p q e 0 (λ y. omega (arith, d)) (λ m. refl)

  joined : (vs : List ℕ) (q : Plugin) → Join r q → q.generation ≡ never_begun → Begun x g n (after r (adds q vs))
  unfolding after
  joined vs q j i =
      let o = join_only r b q j vs in
      record {
        unborn = λ l. h.unborn (omega arith);
        counts = λ s f. by_test (eqb q.id x)
            (λ y. let e = eqb-true q.id x y in
            let v : Some q ≡ Some s = sym o.now ∙ ap (lookup (after r (adds q vs))) e ∙ f in
            let w : q.generation ≡ s.generation = cc in
            let u = h.unborn (omega (arith, j.id)) in
            omega arith)
            (λ d. h.counts s (sym (o.other x d) ∙ f));
      }

  left : (vs : List ℕ) (id : ℕ) (p : Plugin) → lookup r id ≡ Some p → Begun x g n (after r (removes id vs))
  unfolding after
  left vs id p e =
      let o = only_freed r vs id p e in
      record {
        unborn = h.unborn;
        counts = λ s f. by_test (eqb id x)
            (λ y. let v : None ≡ Some s = sym o.now ∙ ap (lookup (after r (removes id vs))) (eqb-true id x y) ∙ f in
            let z : ◌≡◌ {A = ℕ} 0 1 = cc in
            omega arith)
            (λ d. h.counts s (sym (o.other x d) ∙ f));
      }

  still : (r' : Registry) → Begun x g n r' → Begun x g (0 + n) r'
  still r' k = let e : 0 + n ≡ n = omega arith in rw e k

  outcome_begun : (o : Op) (u : Outcome) → Lawful r o u → Begun x g (begun_by x (answer_of u) (act o) + n) (after r u)
  unfolding Lawful after new_plugin
  outcome_begun o (tells (refusing k vs)) w = still r h
  outcome_begun o (tells (accepting vs)) w = rw w (still r h)
  outcome_begun o (writes place l vs) w = rw w (still r h)
  outcome_begun o (stores q vs) w = turned (act o) vs w.0 q w.2 w.1
  outcome_begun o (adds q vs) w = rw w.1 (still _ (joined vs q w.4 (ap (λ (p : Plugin). p.generation) w.3)))
  outcome_begun o (removes id vs) w = rw w.1 (still _ (left vs id w.0 w.2))

  pub step_begun : (o : Op) → Begun x g (begun_by x (answer_to r o) (act o) + n) (after_step r o)
  step_begun o = outcome_begun o (step r o) (lawful r o)

-- at a start
pub start_begun : (r : Registry) → Built r → (x : ℕ) → Begun x (generation_in (lookup r x)) 0 r
start_begun r b x = record {
  unborn = λ l. rw (fresh r b x l);
  counts = λ q e. rw e (omega arith);
}

on_begun : (x g : ℕ) (s : Run) → Built s.registry → (os : List Op) → Begun x g (times_begun x s.events) s.registry
    → Begun x g (times_begun x (go_on_with s os).events) (go_on_with s os).registry
on_begun x g s b [] h = h
on_begun x g s b (o ∷ os) h = on_begun x g (go_on s o) (step_built s.registry b o) os (step_begun s.registry b x g _ h o)

-- Only its accepted begin changes a plugin's generation, and makes it one more.
pub generation_stays : (r : Registry) → Built r → (o : Op) (x : ℕ) (p q : Plugin) → lookup r x ≡ Some p → lookup (after_step r o) x ≡ Some q
    → q.generation ≡ p.generation + begun_by x (answer_to r o) (act o)
generation_stays r b o x p q e f =
    let k = (step_begun r b x (generation_in (lookup r x)) 0 (start_begun r b x) o).counts q f in
    let i = ap generation_in e in
    omega arith

-- In any run it is what it was at the start and the accepted begins since; from an opening, the accepted begins.
pub run_generation : (r : Registry) → Built r → (ops : List Op) (x : ℕ) (q : Plugin) → lookup (run r ops).registry x ≡ Some q
    → q.generation ≡ generation_in (lookup r x) + times_begun x (run r ops).events
run_generation r b ops x q e =
    (on_begun x (generation_in (lookup r x)) (record { registry = r; events = [] }) b ops (start_begun r b x)).counts q e

pub fresh_generation : (d f : ℕ) → f ≤ last → (ops : List Op) (x : ℕ) (q : Plugin) → lookup (run_fresh d f ops).registry x ≡ Some q
    → q.generation ≡ times_begun x (run_fresh d f ops).events
unfolding lookup
fresh_generation d f l ops x q e = let k = run_generation (opened d f) (opened_built d f l) ops x q e in omega arith
