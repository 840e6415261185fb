-- Upstream's clauses on the phases: S's begin_native_execution (here begin), finish_native_execution (here ready) and
-- release_native_execution (here finish).
use Rattle.std.specs.Prelude.{ℕ, ◌+◌, ◌≡◌, true, not, ◌&&◌, eqb, None}
use Rattle.std.proofs.Math.Path.{refl}
use mathlib.Core.List.{[], ◌∷◌, map, map-map}
use borrow.Author.Tests.{eq-eqb}
use Rattle.rules.specs.Basics.{any, all, is_some, is_none, holds, one, last}
use Rattle.rules_types.specs.declared.Port.{Port}
use Rattle.rules_types.specs.declared.Phase.{Phase}
use Rattle.rules_types.specs.declared.Phase.TheVariants.{Idle, Loading, Active, Unloading}
use Rattle.rules_types.specs.declared.Root.TheVariants.{Unissued}
use Rattle.rules.specs.Holds.{Plugin, Registry, lookup, provided, is_in, is_idle, is_loading, is_unloading}
use Rattle.rules.specs.Holds.{with_generation, with_root, with_provisions}
use Rattle.rules.specs.Outcomes.{Accepted, Outcome, answer_of, after}
use Rattle.rules.specs.Phases.{Begin, Ready, Finish, cell, moved, available, is_spent, setup, dropped, begin, ready, finish}
use Rattle.rules.specs.Admission.{Ticket}
use Rattle.rules.specs.Values.{value_in, visible}
use Rattle.rules.specs.Steps as op
use Rattle.rules_laws.specs.Laws.Members.{lookup_in}
use Rattle.rules_laws.specs.Laws.Table.{begins, readies, finishes}
use Rattle.rules_laws.specs.Built.{Built}
use Rattle.rules_laws.specs.Kept.{step_built}
use Rattle.rules_laws.specs.Kept.Plugins.{alike, unvalued}
use Rattle.rules_upstream.specs.Accepted.{accepted, exact, When, when_passed, when_known, Turns, turned}
use Rattle.rules_upstream.specs.Admission.{root_ready}
use Rattle.rules_upstream.specs.Values.{lacks, complete_values, valueless, provider_is}

-- Which phase a step starts from.
begins_from : (h : Phase) → not (is_none (cell h Begin)) ≡ is_idle h
begins_from Idle = refl
begins_from Loading = refl
begins_from Active = refl
begins_from Unloading = refl

readies_from : (h : Phase) → not (is_none (cell h Ready)) ≡ is_loading h
readies_from Idle = refl
readies_from Loading = refl
readies_from Active = refl
readies_from Unloading = refl

finishes_from : (h : Phase) → not (is_none (cell h Finish)) ≡ is_unloading h
finishes_from Idle = refl
finishes_from Loading = refl
finishes_from Active = refl
finishes_from Unloading = refl

-- What begin and finish leave of the plugin. Ready leaves it moved.
abbrev pub begun : Plugin → Plugin
begun p = moved Begin (with_generation (p.generation + 1) (with_root Unissued p))

abbrev pub finished : Plugin → Plugin
finished p = moved Finish (with_provisions (map dropped p.provisions) (with_root Unissued p))

-- S begin: the ticket is answered; the plugin is Loading, and as it was Idle it has no value.
pub record Begun (r : Registry) (id : ℕ) (u : Outcome) : Type 0 where
  pub was : Plugin
  pub turns : Turns r id was (begun was) (r.domain ∷ id ∷ (was.generation + 1) ∷ setup ∷ []) u
  pub phase : (begun was).phase ≡ Loading
  pub values : Built r → (q : Port) → value_in q (begun was).provisions ≡ None

-- What a begun plugin's ticket is good for.
pub record Tickets (r : Registry) (u : Outcome) : Type 0 where
  pub ticket : Ticket
  pub answer : answer_of u ≡ Accepted (ticket.domain ∷ ticket.id ∷ ticket.generation ∷ ticket.kind ∷ [])
  pub ready : root_ready (after r u) ticket ≡ true

-- S finish: every provision has a value, the plugin is Active, and its values are those it had.
pub record Readied (r : Registry) (id : ℕ) (u : Outcome) : Type 0 where
  pub was : Plugin
  pub turns : Turns r id was (moved Ready was) [] u
  pub phase : (moved Ready was).phase ≡ Active
  pub complete : (q : Port) → is_in q (provided was) ≡ true → is_some (value_in q was.provisions) ≡ true
  pub values : (moved Ready was).provisions ≡ was.provisions

-- S release: the plugin is Idle, and no value is left.
pub record Finished (r : Registry) (id : ℕ) (u : Outcome) : Type 0 where
  pub was : Plugin
  pub turns : Turns r id was (finished was) [] u
  pub phase : (finished was).phase ≡ Idle
  pub values : (q : Port) → value_in q (finished was).provisions ≡ None

module _ (r : Registry) (id : ℕ) where
  -- S begin: accepted exactly so,
  pub begin_exactly : accepted (begin r id)
      ≡ holds (λ p. not p.retired && (is_idle p.phase && (not (eqb p.generation last) && all (available r) p.dependencies))) (lookup r id)
  unfolding begin
  begin_exactly = simp (exact, begins_from)

  pub begin_effect : When (Begun r id) (begin r id)
  unfolding begin
  begin_effect = when_known r (Begun r id) _ _ λ p e. when_passed (Begun r id) _ _ λ c _.
      let i = begins p.phase c.1.0 in
      record {
        was = p;
        turns = turned r id p (begun p) _ e (alike p refl);
        phase = rw i;
        values = λ b q. valueless p.provisions ((b.members p (lookup_in r id p e)).lively.idle_values i) q;
      }

  -- .. and for the ticket that it answers the root is then ready.
  pub begin_tickets : When (Tickets r) (begin r id)
  unfolding begin after
  begin_tickets = when_known r (Tickets r) _ _ λ p e. when_passed (Tickets r) _ _ λ c _.
      let g = p.generation + 1 in
      let now = (turned r id p (begun p) (r.domain ∷ id ∷ g ∷ setup ∷ []) e (alike p refl)).only.now in
      record {
        ticket = record { domain = r.domain; id = id; generation = g; kind = setup };
        answer = refl;
        ready = rw (eq-eqb r.domain r.domain refl, now) (rw (c.0, begins p.phase c.1.0, eq-eqb g g refl));
      }

  -- S finish never says when it is accepted; here exactly so,
  pub ready_exactly : accepted (ready r id)
      ≡ holds (λ p. not p.retired && (is_loading p.phase && (is_spent p.root && not (any lacks p.provisions)))) (lookup r id)
  unfolding ready
  ready_exactly = simp (exact, readies_from)

  pub ready_effect : When (Readied r id) (ready r id)
  unfolding ready
  ready_effect = when_known r (Readied r id) _ _ λ p e. when_passed (Readied r id) _ _ λ c _.
      record {
        was = p;
        turns = turned r id p (moved Ready p) [] e (alike p refl);
        phase = rw (readies p.phase c.1.0);
        complete = complete_values p.provisions c.1.1.1.0;
        values = refl;
      }

  -- .. and what it offered can then be seen: S's publication has the episode's values.
  pub ready_visible : Built r → (w : Readied r id (ready r id)) (q : Port) → is_in q (provided w.was) ≡ true
      → answer_of (visible (after r (ready r id)) q) ≡ Accepted (one (value_in q w.was.provisions))
  unfolding visible
  ready_visible b w q m =
      let r' = after r (ready r id) in
      let p = moved Ready w.was in
      let i = provider_is r' (step_built r b (op.Ready id)) q p (lookup_in r' id p w.turns.only.now) (rw m) in
      rw i (rw w.phase)

  -- S release never says when it is accepted; here exactly so.
  pub finish_exactly : accepted (finish r id) ≡ holds (λ p. is_unloading p.phase) (lookup r id)
  unfolding finish
  finish_exactly = simp (exact, finishes_from)

  pub finish_effect : When (Finished r id) (finish r id)
  unfolding finish
  finish_effect = when_known r (Finished r id) _ _ λ p e. when_passed (Finished r id) _ _ λ c _.
      record {
        was = p;
        turns = turned r id p (finished p) [] e (alike p (map-map _ dropped p.provisions));
        phase = rw (finishes p.phase c.0);
        values = valueless (map dropped p.provisions) (unvalued dropped (λ _. refl) p.provisions);
      }
