-- A start order that passes can be carried out: each plugin in turn is begun, admitted, called, given its values and made ready, and
-- every operation is accepted.
use Rattle.std.specs.Prelude.{ℕ, ◌≡◌, refl, true, false, List, [], ◌∷◌, ◌++◌, eqb}
use Rattle.std.proofs.Common.{sym, ap, ◌∙◌, true≢false, append-nil, append_assoc, ⊎_elim, eqb-true, eq-eqb, ne_eqb}
use Rattle.std.proofs.Math.Path.{subst⁻¹}
use Rattle.std.proofs.lemmas.Bool.{eqb-false}
use Rattle.rules_types.specs.declared.Port.{Port}
use Rattle.rules.specs.Holds.{Plugin, Registry, lookup, provided, is_in, is_active}
use Rattle.rules.specs.Registration.{repeats}
use Rattle.rules.specs.Steps.{Run, go_on_with, run}
use Rattle.rules.specs.Orders.{named, supplied, passes, set_checks}
use Rattle.rules_laws.specs.Laws.Tests.{by_test, neither, Passed}
use Rattle.rules_laws.specs.Laws.Lookups.{lookup_id}
use Rattle.rules_laws.specs.Laws.Members.{lookup_in}
use Rattle.rules_laws.specs.Laws.Table.{is_idle_lem}
use Rattle.rules_laws.specs.Built.{Built}
use Rattle.rules_orders.specs.Ids.{named_head, named_cases, named_left, named_right, named_either, once_before}
use Rattle.rules_orders.specs.Follows.{passes_says}
use Rattle.rules_orders.specs.Sets.{Startable, set_startable}
use Rattle.rules_orders.specs.Histories.{active, is_up}
use Rattle.rules_orders.proofs.Started.{Since, since_start, supplied_available}
use Rattle.rules_orders.specs.OneStart.{start_one, smooth}
use Rattle.rules_orders.proofs.OneStart.{on_append, During, one_starts}
use Rattle.rules_orders.specs.Startup.{start_all, start_found}

-- Between two starts: those that were started are Active, and the others are as at the start.
record Between (s : Registry) (n : Run) (ups : List ℕ) : Type 0 where
  accepted : smooth n.events ≡ true
  since : Since s n
  rest : (y : ℕ) → named y ups ≡ false → lookup n.registry y ≡ lookup s y
  up : (y : ℕ) → named y ups ≡ true → is_up s y n.events ≡ true

module _ (s : Registry) (n : Run) (before : List ℕ) (w : Between s n before) where
  next_between : (x : ℕ) (n' : Run) (q : Plugin) → During s n x n' q → is_active q.phase ≡ true → Between s n' (before ++ x ∷ [])
  next_between x n' q d i = record {
    accepted = d.accepted;
    since = d.since;
    rest = λ y f. d.other y (ne_eqb x y (λ j. true≢false (sym (named_right y before (x ∷ []) (rw (eq-eqb y x (sym j)))) ∙ f)))
        ∙ w.rest y (by_test (named y before) (λ g. absurd (true≢false (sym (named_left y before (x ∷ []) g) ∙ f))) (λ g. g));
    up = λ y f. sym (d.since.up y) ∙ by_test (eqb x y)
        (λ g. ap (λ z. active (lookup n'.registry z)) (sym (eqb-true x y g)) ∙ ap active d.here ∙ i)
        (λ g. ap active (d.other y g) ∙ w.since.up y ∙ w.up y (⊎_elim (λ k. k) (λ k. absurd (alone y g k)) (named_either y before (x ∷ []) f)));
  }
    where
      alone : (y : ℕ) → eqb x y ≡ false → named y (x ∷ []) ≡ true → ⊥
      alone y g k = ⊎_elim (λ e. eqb-false x y g (sym e)) (λ z. true≢false (sym z)) (named_cases y x [] k)

  -- whoever was Active at the start still is
  still : (y : ℕ) → is_up s y [] ≡ true → is_up s y n.events ≡ true
  still y t = by_test (named y before) (w.up y) (λ f. sym (w.since.up y) ∙ ap active (w.rest y f) ∙ t)

  one_more_lem : Built s → (a : ℕ) (v : Port → ℕ) (x : ℕ) → named x before ≡ false → supplied s before x ≡ true → (t : Startable s x)
      → Between s (go_on_with n (start_one s.domain a v x t.plugin)) (before ++ x ∷ [])
  one_more_lem b a v x new h t =
      let p = t.plugin in
      let e = w.rest x new ∙ t.registered in
      let mem = b.members p (lookup_in s x p t.registered) in
      let idle = is_idle_lem p.phase t.idle in
      let apart = (neither (is_in p.anchor (provided p)) (repeats (provided p)) mem.shaped.apart).1 in
      let d = supplied_available s b n w.since before still w.up x h p e in
      next_between x _ _
      (one_starts s b n x p t.unretired (lookup_id s x p t.registered) v apart a w.accepted w.since e idle t.further
      (mem.lively.idle_values idle) d) refl

-- all of an order that passes
module _ (s : Registry) (b : Built s) (set order : List ℕ) (c : Passed (set_checks s set)) (h : passes s set order ≡ true) (a : ℕ) (v : Port → ℕ) where
  on_starts : (before rest : List ℕ) → order ≡ before ++ rest → (n : Run) → Between s n before → Between s (go_on_with n (start_all s a v rest)) order
  on_starts before [] e n w = subst⁻¹ (Between s n) (e ∙ append-nil before) w
  on_starts before (x ∷ rest) e n w =
      let o = passes_says s set order h in
      let t = set_startable s set c x (o.only x (rw e (named_right x before (x ∷ rest) (named_head x rest)))) in
      let new = once_before before x rest (rw e at o.once) in
      let one = start_one s.domain a v x t.plugin in
      let k = ap (λ u. start_found s.domain a v x u ++ start_all s a v rest) t.registered in
      let w' = one_more_lem s n before w b a v x new (o.supply before x rest e) t in
      subst⁻¹ (λ n'. Between s n' order) (ap (go_on_with n) k ∙ on_append n one (start_all s a v rest))
      (on_starts (before ++ x ∷ []) rest (e ∙ sym (append_assoc before (x ∷ []) rest)) (go_on_with n one) w')

  all_start : Between s (run s (start_all s a v order)) order
  all_start = on_starts [] order refl (record { registry = s; events = [] })
      (record { accepted = refl; since = since_start s b; rest = λ y f. refl; up = λ y f. absurd (true≢false (sym f)) })

  -- Every operation is accepted, and then each of the set is Active, by the history.
  pub starts : (smooth (run s (start_all s a v order)).events ≡ true)
      × ((x : ℕ) → named x set ≡ true → is_up s x (run s (start_all s a v order)).events ≡ true)
  starts = (all_start.accepted, λ x m. all_start.up x ((passes_says s set order h).every x m))
