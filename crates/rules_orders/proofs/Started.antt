-- What an order that passes is for: when each before an id has been made ready, and whoever was Active still is, its begin is not
-- refused for want of a provider, over any operations since the order was checked.
use Rattle.std.specs.Prelude.{ℕ, ◌≤◌, Bool, false, ◌||◌, List, [], ◌∷◌, ◌++◌, ◌≢◌, eqb, Option, Some, None}
use Rattle.std.proofs.Common.{arith, le_refl, sym, ◌∙◌, true≢false, eqb-true}
use Rattle.std.proofs.Math.Path.{◌≡◌, refl, ap, subst}
use Rattle.std.proofs.Math.Bool.{true}
use Rattle.rules.specs.Basics.{all, holds, is_some}
use Rattle.rules_types.specs.declared.Port.{Port}
use Rattle.rules.specs.Holds.{Plugin, Registry, plugins, lookup, provider, provides, is_active}
use Rattle.rules.specs.Refusals.{number, Retired, InvalidState, Exhausted, Unavailable}
use Rattle.rules.specs.Outcomes.{Refused, Outcome, tells, writes, stores, adds, removes, answer_of, after, ◌⇒◌, checked}
use Rattle.rules.specs.Phases.{available, begin}
use Rattle.rules.specs.Steps.{Op, Begin, Run, step, answer_to, go_on, go_on_with, run}
use Rattle.rules.specs.Orders.{named, in_time, supplied, passes}
use Rattle.rules_laws.specs.Laws.Tests.{by_test, both, found_elim}
use Rattle.rules_laws.specs.Laws.Members.{first_in_lem}
use Rattle.rules_laws.specs.Laws.Table.{is_active_lem}
use Rattle.rules_laws.specs.Built.{Served, Built}
use Rattle.rules_laws.specs.Stays.{domain_stays}
use Rattle.rules_laws.specs.Kept.{step_built}
use Rattle.rules_laws.specs.Kept.Places.{Only, distinct, only_stored, only_freed}
use Rattle.rules_laws.specs.Kept.Plugins.{alike_provides}
use Rattle.rules_laws.specs.Kept.Providers.{unprovided}
use Rattle.rules_laws.specs.Kept.Moves.{fresh, join_only}
use Rattle.rules_laws.specs.Kept.Operations.{Lawful, lawful}
use Rattle.rules_orders.specs.Follows.{passes_says}
use Rattle.rules_orders.specs.Histories.{up_after, active, is_up}
use Rattle.rules_orders.proofs.Histories.{Goes, goes}

-- the same dependencies, and the same ports provided
abbrev Like : Plugin → Plugin → Type 0
Like p q = (q.dependencies ≡ p.dependencies) × ((k : Port) → provides q k ≡ provides p k)

-- What a run from s keeps: ids are never given twice, so what stands under an id of s has the ports that it had.
pub record Kept (s r : Registry) : Type 0 where
  pub next : s.next ≤ r.next
  pub like : (x : ℕ) (p q : Plugin) → lookup s x ≡ Some p → lookup r x ≡ Some q → Like p q

module _ (s : Registry) (b : Built s) (r : Registry) (c : Built r) (k : Kept s r) where
  only_kept : (r' : Registry) (id : ℕ) (u u' : Option Plugin) → Only r r' id u u' → r.next ≤ r'.next
      → ((p q : Plugin) → lookup s id ≡ Some p → u' ≡ Some q → Like p q) → Kept s r'
  only_kept r' id u u' o l h = record {
    next = let n = k.next in omega arith;
    like = λ x p q e f. by_test (eqb id x)
        (λ y. let i = eqb-true id x y in h p q (ap (lookup s) i ∙ e) (sym o.now ∙ ap (lookup r') i ∙ f))
        (λ n. k.like x p q e (sym (o.other x n) ∙ f));
  }

  outcome_kept : (o : Op) (u : Outcome) → Lawful r o u → Kept s (after r u)
  unfolding Lawful after
  outcome_kept o (tells a) w = k
  outcome_kept o (writes place l vs) w = k
  outcome_kept o (stores q vs) w = only_kept _ _ _ (Some q) (only_stored r vs w.0 q w.2) (le_refl _)
      (λ p t e i. let l = k.like q.id p w.0 e w.2 in
      let a = w.3.alike in
      let j : q ≡ t = cc in
      subst (Like p) j (a.dependencies ∙ l.0, λ k. alike_provides w.0 q a k ∙ l.1 k))
  outcome_kept o (adds q vs) w = only_kept _ _ _ (Some q) (join_only r c q w.4 vs) (omega arith)
      (λ p t e i. let f = fresh s b q.id (omega (arith, w.4.id, k.next)) in let z : ◌≡◌ {A = ℕ} 0 1 = cc in absurd (omega arith))
  outcome_kept o (removes id vs) w = only_kept _ _ _ None (only_freed r vs id w.0 w.2) (le_refl _)
      (λ p t e i. let z : ◌≡◌ {A = ℕ} 0 1 = cc in absurd (omega arith))

-- What is known of a run since its start at s.
pub record Since (s : Registry) (n : Run) : Type 0 where
  pub built : Built n.registry
  pub domain : n.registry.domain ≡ s.domain
  pub kept : Kept s n.registry
  pub up : (x : ℕ) → active (lookup n.registry x) ≡ is_up s x n.events

module _ (s : Registry) (b : Built s) where
  pub since_start : Since s (record { registry = s; events = [] })
  since_start = record {
    built = b;
    domain = refl;
    kept = record { next = le_refl _; like = λ x p q e f. let i : p ≡ q = cc in subst (Like p) i (refl, λ k. refl) };
    up = λ x. refl;
  }

  pub since_next : (n : Run) → Since s n → (o : Op) → Since s (go_on n o)
  unfolding Goes
  since_next n k o =
      let r = n.registry in
      record {
        built = step_built r k.built o;
        domain = domain_stays r o ∙ k.domain;
        kept = outcome_kept s b r k.built k.kept o (step r o) (lawful r o);
        up = λ x. goes r x k.built o ∙ ap (up_after x o (answer_to r o)) (k.up x);
      }

  on_since : (n : Run) → Since s n → (os : List Op) → Since s (go_on_with n os)
  on_since n k [] = k
  on_since n k (o ∷ os) = on_since (go_on n o) (since_next n k o) os

  since : (ops : List Op) → Since s (run s ops)
  since ops = on_since _ since_start ops

-- A plugin is Active exactly if it is by the history.
pub up_is_active : (s : Registry) → Built s → (ops : List Op) (x : ℕ) → active (lookup (run s ops).registry x) ≡ is_up s x (run s ops).events
up_is_active s b ops x = (since s b ops).up x

-- A port with an Active provider is available: it has no other.
served_available : (r : Registry) → Built r → (q : Port) → Served r q → available r q ≡ true
unfolding provider
served_available r b q v = go (provider r q) refl
  where
    go : (u : Option Plugin) → provider r q ≡ u → active u ≡ true
    go None i = absurd (unprovided r q (ap is_some i) v.id v.plugin v.registered v.gives)
    go (Some a) i =
        let m = first_in_lem (λ (p : Plugin). provides p q) (plugins r) a i in
        let e = distinct r b.once a m.0 in
        let j = b.wired.sole a.id v.id a v.plugin q e v.registered m.1 v.gives in
        let f = ap (lookup r) j ∙ v.registered in
        let w : a ≡ v.plugin = cc in
        ap (λ (p : Plugin). is_active p.phase) w ∙ ap is_active v.active

-- Where whoever was Active still is, and those before have come to be, the dependencies of what they supply are available.
module _ (s : Registry) (b : Built s) (n : Run) (k : Since s n) (before : List ℕ) (still : (y : ℕ) → is_up s y [] ≡ true → is_up s y n.events ≡ true)
    (made : (y : ℕ) → named y before ≡ true → is_up s y n.events ≡ true) where
  in_time_served : (q : Port) → in_time s before q ≡ true → Served n.registry q
  unfolding provider
  in_time_served q h = go (provider s q) refl h
    where
      now : (a : Plugin) → lookup s a.id ≡ Some a → provides a q ≡ true
          → (u : Option Plugin) → lookup n.registry a.id ≡ u → active u ≡ true → Served n.registry q
      now a e g None f t = absurd (true≢false (sym t))
      now a e g (Some d) f t = record {
        id = a.id;
        plugin = d;
        registered = f;
        active = is_active_lem d.phase t;
        gives = (k.kept.like a.id a d e f).1 q ∙ g;
      }

      go : (u : Option Plugin) → provider s q ≡ u → holds (λ (p : Plugin). is_active p.phase || named p.id before) u ≡ true
          → Served n.registry q
      go None i t = absurd (true≢false (sym t))
      go (Some a) i t =
          let m = first_in_lem (λ (p : Plugin). provides p q) (plugins s) a i in
          let e = distinct s b.once a m.0 in
          let up = by_test (is_active a.phase) (λ y. still a.id (ap active e ∙ y)) (λ n. made a.id (rw n at t)) in
          now a e m.1 _ refl (k.up a.id ∙ up)

  all_available_lem : (qs : List Port) → all (in_time s before) qs ≡ true → all (available n.registry) qs ≡ true
  all_available_lem [] h = refl
  all_available_lem (q ∷ qs) h =
      let t = both (in_time s before q) (all (in_time s before) qs) h in
      rw (served_available n.registry k.built q (in_time_served q t.0), all_available_lem qs t.1)

  pub supplied_available : (x : ℕ) → supplied s before x ≡ true
      → (q : Plugin) → lookup n.registry x ≡ Some q → all (available n.registry) q.dependencies ≡ true
  unfolding supplied
  supplied_available x h q f = go (lookup s x) refl h
    where
      go : (u : Option Plugin) → lookup s x ≡ u → holds (λ (p : Plugin). all (in_time s before) p.dependencies) u ≡ true
          → all (available n.registry) q.dependencies ≡ true
      go None e t = absurd (true≢false (sym t))
      go (Some p) e t = rw (k.kept.like x p q e f).0 (all_available_lem p.dependencies t)

-- begin with its dependencies available
not_14 : (a b c : Bool) (q : Plugin) (vs : List ℕ)
    → answer_of (checked ((a ⇒ Retired) ∷ (b ⇒ InvalidState) ∷ (c ⇒ Exhausted) ∷ (false ⇒ Unavailable) ∷ []) (stores q vs)) ≢ Refused (number Unavailable) []
unfolding checked
not_14 true b c q vs e = let z : ◌≡◌ {A = ℕ} 2 14 = cc in omega arith
not_14 false true c q vs e = let z : ◌≡◌ {A = ℕ} 3 14 = cc in omega arith
not_14 false false true q vs e = let z : ◌≡◌ {A = ℕ} 16 14 = cc in omega arith
not_14 false false false q vs e = let z : ◌≡◌ {A = ℕ} 0 1 = cc in omega arith

begin_not_14 : (r : Registry) (x : ℕ) → ((p : Plugin) → lookup r x ≡ Some p → all (available r) p.dependencies ≡ true)
    → answer_to r (Begin x) ≢ Refused (number Unavailable) []
unfolding begin
begin_not_14 r x h = found_elim (λ u. answer_of u ≢ Refused (number Unavailable) []) (lookup r x) _
    (λ e. let z : ◌≡◌ {A = ℕ} 1 14 = cc in omega arith)
    (λ p e. rw (h p e) (not_14 _ _ _ _ _))

-- Beginning the plugins of a passing order one after the other, each once those before it are ready, is never refused 14.
pub never_14 : (s : Registry) → Built s → (set order : List ℕ) → passes s set order ≡ true
    → (ops : List Op) (before : List ℕ) (x : ℕ) (rest : List ℕ) → order ≡ before ++ x ∷ rest
    → ((y : ℕ) → is_up s y [] ≡ true → is_up s y (run s ops).events ≡ true)
    → ((y : ℕ) → named y before ≡ true → is_up s y (run s ops).events ≡ true)
    → answer_to (run s ops).registry (Begin x) ≢ Refused (number Unavailable) []
never_14 s b set order h ops before x rest e still made =
    begin_not_14 _ x (supplied_available s b (run s ops) (since s b ops) before still made x ((passes_says s set order h).supply before x rest e))
