-- What every run keeps, from an opening on: the registry is Built, and ids rise.
pub mod Places
pub mod Wiring
pub mod Rows
pub mod Plugins
pub mod Change
pub mod Providers
pub mod Rule
pub mod Ranks
pub mod Moves
pub mod New
pub mod Ids
pub mod Reach
pub mod Operations
use Rattle.std.specs.Prelude.{ℕ, ◌≤◌, ◌≡◌, refl, true, List, [], ◌∷◌, ◌++◌, ◌≢◌, Some}
use Rattle.std.proofs.Common.{arith, le_refl, ap}
use Rattle.rules.specs.Basics.{last}
use Rattle.rules_types.specs.declared.Port.{Port}
use Rattle.rules_types.specs.declared.Root.TheVariants.{Queued}
use Rattle.rules.specs.Holds.{Plugin, Registry, opened, lookup, provides, rows_in_use}
use Rattle.rules.specs.Outcomes.{Accepted, Outcome, tells, refusing, accepting, writes, stores, adds, removes, answer_of, after}
use Rattle.rules.specs.Steps.{Op, Run, step, after_step, go_on, go_on_with, run, run_fresh}
use Rattle.rules_laws.specs.Acts.{Act, begins, stays, act, joins, leaves}
use Rattle.rules_laws.specs.Demand3.{Start}
use Rattle.rules_laws.specs.Built.{Served, Wanted, Built}
use Rattle.rules_laws.specs.Kept.Moves.{turn_built, join_built, leave_built, fresh}
use Rattle.rules_laws.specs.Kept.Ids.{issued_by, issued_ids, Rise, none_issued, one_issued}
use Rattle.rules_laws.specs.Kept.Operations.{Dated, Lawful, lawful}

-- An opening is Built, every operation keeps that, and so does every sequence.
pub opened_built : (d f : ℕ) → f ≤ last → Built (opened d f)
unfolding lookup rows_in_use
opened_built d f l = record {
  room = refl;
  first = le_refl _;
  next = l;
  rows = omega arith;
  once = refl;
  members = λ a m. absurd m;
  wired = record {
    served = λ k want. let i = want.registered in let z : ◌≡◌ {A = ℕ} 0 1 = cc in absurd (omega arith);
    sole = λ x y p q k i j a b. cc;
  };
  ruled = λ a m. absurd m;
  ranked = record { rank = λ a. 0; falls = λ a b m. absurd m };
}

outcome_built : (r : Registry) → Built r → (o : Op) (u : Outcome) → Lawful r o u → Built (after r u)
unfolding Lawful after
outcome_built r b o (tells a) w = b
outcome_built r b o (writes place l vs) w = b
outcome_built r b o (stores q vs) w = turn_built r b w.0 q w.2 w.3 vs
outcome_built r b o (adds q vs) w = join_built r b q w.4 vs
outcome_built r b o (removes id vs) w = leave_built r b id w.0 w.2 w.3 vs

pub step_built : (r : Registry) → Built r → (o : Op) → Built (after_step r o)
step_built r b o = outcome_built r b o (step r o) (lawful r o)

on_built : (s : Run) (os : List Op) → Built s.registry → Built (go_on_with s os).registry
on_built s [] b = b
on_built s (o ∷ os) b = on_built (go_on s o) os (step_built s.registry b o)

pub run_built : (r : Registry) → Built r → (ops : List Op) → Built (run r ops).registry
run_built r b ops = on_built (record { registry = r; events = [] }) ops b

pub fresh_built : (d f : ℕ) → f ≤ last → (ops : List Op) → Built (run_fresh d f ops).registry
fresh_built d f l ops = run_built (opened d f) (opened_built d f l) ops

-- Every dependency of a Loading or Active plugin has exactly one provider, and that one is Active.
pub one_provider : (r : Registry) → Built r → (k : Port) → Wanted r k
    → (v : Served r k) × ((y : ℕ) (b : Plugin) → lookup r y ≡ Some b → provides b k ≡ true → y ≡ v.id)
one_provider r b k want =
    let v = b.wired.served k want in
    (v, λ y a e g. b.wired.sole y v.id a v.plugin k e v.registered g v.gives)

-- A Built registry in which no root is Queued can start a run.
pub built_start : (r : Registry) → Built r → ((x : ℕ) (p : Plugin) → lookup r x ≡ Some p → (v a : ℕ) → p.root ≢ Queued v a) → Start r
built_start r b n = record { room = b.room; fresh = fresh r b; unqueued = n }

-- Ids rise and are never given twice, in any run.
outcome_rises : (m : ℕ) (r : Registry) (o : Op) (u : Outcome) → Lawful r o u → (ids : List ℕ) → Rise m r.next ids
    → Rise m (after r u).next (issued_by (answer_of u) (act o) ++ ids)
unfolding Lawful after
outcome_rises m r o (tells (refusing x vs)) w ids i = i
outcome_rises m r o (tells (accepting vs)) w ids i = none_issued m r.next ids _ i (ap (issued_by (Accepted vs)) w)
outcome_rises m r o (writes place l vs) w ids i = none_issued m r.next ids _ i (ap (issued_by (Accepted vs)) w)
outcome_rises m r o (stores q vs) w ids i = none_issued m r.next ids _ i (turned (act o) w.1)
  where
    turned : (a : Act) → Dated a w.0 q → issued_by (Accepted vs) a ≡ []
    turned (joins _) h = elim h [ ]
    turned (leaves id) h = elim h [ ]
    turned (begins id) d = refl
    turned stays d = refl
outcome_rises m r o (adds q vs) w ids i = one_issued m r.next ids (issued_by (Accepted vs) (act o)) i (rw (w.1, w.2))
outcome_rises m r o (removes id vs) w ids i = none_issued m r.next ids _ i (ap (issued_by (Accepted vs)) w.1)

on_rises : (m : ℕ) (s : Run) (os : List Op) → Rise m s.registry.next (issued_ids s.events)
    → Rise m (go_on_with s os).registry.next (issued_ids (go_on_with s os).events)
on_rises m s [] i = i
on_rises m s (o ∷ os) i = on_rises m (go_on s o) os (outcome_rises m s.registry o (step s.registry o) (lawful s.registry o) _ i)

pub ids_rise_lem : (r : Registry) (ops : List Op) → Rise r.next (run r ops).registry.next (issued_ids (run r ops).events)
ids_rise_lem r ops = on_rises r.next (record { registry = r; events = [] }) ops (record { next = omega arith; ids = refl })
