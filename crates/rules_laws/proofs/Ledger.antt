-- Rows in use equal the sum, over accepted registrations not yet removed, of dependencies + provisions + 1: over histories, that is
-- operations, answers, and what the start held.
use Rattle.std.specs.Prelude.{ℕ, ◌+◌, ◌≤◌, ◌≡◌, refl, true, false, List, [], ◌∷◌, map, eqb, Option, Some, None}
use Rattle.std.proofs.Common.{arith, ap, ◌∙◌, eqb-true, eq-eqb}
use Rattle.std.proofs.Math.Path.{sym}
use Rattle.std.proofs.lemmas.Simd.{map-map}
use Rattle.std.proofs.Math.ListN.{length-map}
use Rattle.rules.specs.Basics.{first, twice, sum, last}
use Rattle.rules.specs.Holds.{Plugin, Registry, plugins, lookup, opened, rows_of, sum_rows, rows_in_use}
use Rattle.rules.specs.Outcomes.{Accepted, Outcome, tells, refusing, accepting, writes, stores, adds, removes, answer_of, after}
use Rattle.rules.specs.Registration.{Definition, parent_of, inherited_from, resolved, unoffered, dependencies_under, dependencies_of, new_plugin}
use Rattle.rules.specs.Steps.{Op, Run, step, answer_to, after_step, go_on, go_on_with, run, run_fresh}
use Rattle.rules_laws.specs.Acts.{Act, joins, leaves, begins, stays, act}
use Rattle.rules_laws.specs.Laws.Tests.{by_test}
use Rattle.rules_laws.specs.Laws.Once.{without, without_same, without_other, absent, once_without, sum_without}
use Rattle.rules_laws.specs.Built.{Built}
use Rattle.rules_laws.specs.Kept.{opened_built, step_built}
use Rattle.rules_laws.specs.Kept.Places.{Only, only_stored, only_freed}
use Rattle.rules_laws.specs.Kept.Plugins.{as_many_lem}
use Rattle.rules_laws.specs.Kept.Moves.{Turn, Join, Leave, turn_rows, join_only, join_rows, leave_rows}
use Rattle.rules_laws.specs.Kept.Moves as moves
use Rattle.rules_laws.specs.Kept.Operations.{Dated, Lawful, lawful}
use Rattle.rules_laws.specs.Ledger.{Entry, entered, entry_in, entry_rows, handed_down, held_entry, ledger, new_entry, parent_in}

-- The ledger is the registry's: the same entries by id, each once, with the same rows in all.
abbrev entry_of : Option Plugin → Option Entry
entry_of None = None
entry_of (Some p) = Some (held_entry p)

pub record Booked (l : List Entry) (r : Registry) : Type 0 where
  pub finds : (x : ℕ) → entry_in x l ≡ entry_of (lookup r x)
  pub once : twice (map (λ (e : Entry). e.id) l) ≡ false
  pub rows : sum entry_rows l ≡ rows_in_use r

-- at a start
first_held : (x : ℕ) (ps : List Plugin) → entry_in x (map held_entry ps) ≡ entry_of (first (λ (p : Plugin). eqb p.id x) ps)
first_held x [] = refl
first_held x (p ∷ ps) = by_test (eqb p.id x) (λ y. rw y) (λ n. rw n (first_held x ps))

rows_held : (ps : List Plugin) → sum entry_rows (map held_entry ps) ≡ sum_rows ps
rows_held [] = refl
rows_held (p ∷ ps) = ap (λ n. rows_of p + n) (rows_held ps)

pub start_booked : (s : Registry) → Built s → Booked (ledger s []) s
unfolding lookup rows_in_use
start_booked s b = record {
  finds = λ x. first_held x (plugins s);
  once = rw (map-map (λ (e : Entry). e.id) held_entry (plugins s)) b.once;
  rows = rows_held (plugins s);
}

-- a change of what stands under one id, in both
module _ (r r' : Registry) (id : ℕ) (u u' : Option Plugin) (o : Only r r' id u u') (l l' : List Entry) (h : Booked l r) where
  finds_after : entry_in id l' ≡ entry_of u' → ((x : ℕ) → eqb id x ≡ false → entry_in x l' ≡ entry_in x l) → (x : ℕ) → entry_in x l' ≡ entry_of (lookup r' x)
  finds_after here other x = by_test (eqb id x)
      (λ y. let i = eqb-true id x y in ap (λ x. entry_in x l') (sym i) ∙ here ∙ sym (ap entry_of o.now) ∙ ap (λ x. entry_of (lookup r' x)) i)
      (λ n. other x n ∙ h.finds x ∙ sym (ap entry_of (o.other x n)))

module _ (r : Registry) (b : Built r) (l : List Entry) (h : Booked l r) where
  inherits : (u : Option ℕ) → handed_down (parent_in u l) ≡ inherited_from (parent_of r u)
  inherits None = refl
  inherits (Some x) = ap handed_down (h.finds x) ∙ go (lookup r x)
    where
      go : (u : Option Plugin) → handed_down (entry_of u) ≡ inherited_from u
      go None = refl
      go (Some p) = refl

  -- what is entered is what the new plugin has
  new_entry_lem : (d : Definition) → new_entry d r.next l ≡ held_entry (new_plugin r d)
  unfolding new_plugin dependencies_of
  new_entry_lem d =
      let e = inherits d.parent in
      let n = length-map d.provisions _ in
      let m = length-map (resolved d d.provisions) unoffered in
      λ i. record {
        id = r.next;
        dependencies = dependencies_under (e i) d;
        provisions = sym (m ∙ n) i;
      }

  turned : (a : Act) (vs : List ℕ) (p q : Plugin) → Dated a p q → lookup r q.id ≡ Some p → Turn r p q
      → Booked (entered (Accepted vs) a l) (after r (stores q vs))
  turned a vs p q d e t = go a d
    where
      same : held_entry p ≡ held_entry q
      same = λ i. record {
        id = sym t.alike.id i;
        dependencies = sym t.alike.dependencies i;
        provisions = sym (as_many_lem p q t.alike) i;
      }

      kept : Booked l (after r (stores q vs))
      kept = record {
        finds = finds_after r (after r (stores q vs)) q.id (Some p) (Some q) (only_stored r vs p q e) l l h
            (h.finds q.id ∙ ap entry_of e ∙ ap Some same) (λ x n. refl);
        once = h.once;
        rows = h.rows ∙ sym (turn_rows r b p q e t vs);
      }

      go : (a : Act) → Dated a p q → Booked (entered (Accepted vs) a l) (after r (stores q vs))
      go (joins _) h = elim h [ ]
      go (leaves id) h = elim h [ ]
      go (begins id) d = kept
      go stays d = kept

  joined : (d : Definition) (vs : List ℕ) (q : Plugin) → q ≡ new_plugin r d → Join r q
      → Booked (new_entry d r.next l ∷ l) (after r (adds q vs))
  joined d vs q i j =
      let e : new_entry d r.next l ≡ held_entry q = new_entry_lem d ∙ sym (ap held_entry i) in
      let none_yet : entry_in q.id l ≡ None = h.finds q.id ∙ ap entry_of (moves.fresh r b q.id (omega (arith, j.id))) in
      rw e record {
        finds = finds_after r (after r (adds q vs)) q.id None (Some q) (join_only r b q j vs) l (held_entry q ∷ l) h
            (rw (same_id q.id)) (λ x n. rw n);
        once = rw (absent (λ (e : Entry). e.id) q.id l none_yet, h.once);
        rows = let k = h.rows in let m = join_rows r b q j vs in omega arith;
      }
    where
      same_id : (n : ℕ) → eqb n n ≡ true
      same_id n = eq-eqb n n refl

  left : (vs : List ℕ) (id : ℕ) (p : Plugin) → lookup r id ≡ Some p → Leave r id p
      → Booked (without (λ (e : Entry). e.id) id l) (after r (removes id vs))
  left vs id p e v =
      record {
        finds = finds_after r (after r (removes id vs)) id (Some p) None (only_freed r vs id p e) l (without (λ (e : Entry). e.id) id l) h
            (without_same (λ (e : Entry). e.id) id l) (λ x n. without_other (λ (e : Entry). e.id) id x l n);
        once = once_without (λ (e : Entry). e.id) id l h.once;
        rows =
            let m = sum_without (λ (e : Entry). e.id) entry_rows id l (held_entry p) h.once (h.finds id ∙ ap entry_of e) in
            let n = leave_rows r b id p e v vs in
            let k = h.rows in
            omega arith;
      }

  outcome_booked : (o : Op) (u : Outcome) → Lawful r o u → Booked (entered (answer_of u) (act o) l) (after r u)
  unfolding Lawful after
  outcome_booked o (tells (refusing x vs)) w = h
  outcome_booked o (tells (accepting vs)) w = rw w h
  outcome_booked o (writes place m vs) w = rw w h
  outcome_booked o (stores q vs) w = turned (act o) vs w.0 q w.1 w.2 w.3
  outcome_booked o (adds q vs) w = rw (w.1, w.2) (joined w.0 vs q w.3 w.4)
  outcome_booked o (removes id vs) w = rw w.1 (left vs id w.0 w.2 w.3)

  pub step_booked : (o : Op) → Booked (entered (answer_to r o) (act o) l) (after_step r o)
  step_booked o = outcome_booked o (step r o) (lawful r o)

on_booked : (s : Registry) (n : Run) → Built n.registry → (os : List Op) → Booked (ledger s n.events) n.registry
    → Booked (ledger s (go_on_with n os).events) (go_on_with n os).registry
on_booked s n b [] h = h
on_booked s n b (o ∷ os) h = on_booked s (go_on n o) (step_built n.registry b o) os (step_booked n.registry b _ h o)

pub run_booked : (s : Registry) → Built s → (ops : List Op) → Booked (ledger s (run s ops).events) (run s ops).registry
run_booked s b ops = on_booked s (record { registry = s; events = [] }) b ops (start_booked s b)

-- In every run rows in use are the ledger's sum.
pub rows_by_ledger : (s : Registry) → Built s → (ops : List Op) → rows_in_use (run s ops).registry ≡ sum entry_rows (ledger s (run s ops).events)
rows_by_ledger s b ops = sym (run_booked s b ops).rows

-- From an opening, whose ledger is empty.
pub fresh_rows_by_ledger : (d f : ℕ) → f ≤ last → (ops : List Op)
    → rows_in_use (run_fresh d f ops).registry ≡ sum entry_rows (ledger (opened d f) (run_fresh d f ops).events)
fresh_rows_by_ledger d f l ops = rows_by_ledger (opened d f) (opened_built d f l) ops
