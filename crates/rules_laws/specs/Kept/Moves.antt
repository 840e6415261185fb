-- What an operation may do to the plugins, and that a Built registry stays Built.
use Rattle.std.specs.Prelude.{ℕ, ◌+◌, ◌≤◌, ◌<◌, ◌≡◌, refl, true, false, List, ◌≢◌, eqb, length, Option, Some, None}
use Rattle.std.proofs.Common.{arith, sym, ◌∙◌, true≢false, inl, inr, ⊎_elim, ne_eqb}
use Rattle.std.proofs.Math.Nat.{le_refl}
use Rattle.std.proofs.Math.Path.{ap, subst}
use Rattle.std.proofs.lemmas.Bool.{eqb-false}
use Rattle.rules.specs.Basics.{all, any, is_some, last}
use Rattle.rules_types.specs.declared.Port.{Port}
use Rattle.rules.specs.Holds.{Plugin, Registry, plugins, lookup, provider, provides, running, is_idle, is_active, count, rows_of, rows_in_use}
use Rattle.rules.specs.Outcomes.{stores, adds, removes, after}
use Rattle.rules.specs.Registration.{parent_of, inherited_from}
use Rattle.rules.specs.Phases.{available, in_use}
use Rattle.rules.specs.Retirement.{is_child_of}
use Rattle.rules_laws.specs.Laws.Tests.{by_test}
use Rattle.rules_laws.specs.Laws.Lookups.{lookup_id, length_stored, length_freed, length_added}
use Rattle.rules_laws.specs.Laws.Members.{In, any_false, all_true, lookup_in}
use Rattle.rules_laws.specs.Laws.Table.{is_active_lem}
use Rattle.rules_laws.specs.Built.{Shaped, Ruled, Lively, Served, Ranked, Built}
use Rattle.rules_laws.specs.Kept.Places.{Only, distinct, stored_once, added_once, freed_once, only_stored, only_freed, only_added}
use Rattle.rules_laws.specs.Kept.Rows.{rows_stored, rows_freed, rows_added}
use Rattle.rules_laws.specs.Kept.Plugins.{Alike, alike_rows, alike_provides, alike_shaped}
use Rattle.rules_laws.specs.Kept.Providers.{available_served, not_in_use, unprovided}
use Rattle.rules_laws.specs.Kept.Wiring.{Rewired}
use Rattle.rules_laws.specs.Kept.Rule.{parents_stay, alike_ruled}
use Rattle.rules_laws.specs.Kept.Ranks.{ranked_resting, turn_ranked}
use Rattle.rules_laws.specs.Kept.Change.{found_after, built_after}
use Rattle.rules.specs.Limits.{max_plugins, max_rows}

-- The plugin p, registered, becomes q.
pub record Turn (r : Registry) (p q : Plugin) : Type 0 where
  pub alike : Alike p q
  pub lively : Lively p → Lively q
  -- it comes to run only if each dependency has an Active provider
  pub starts : running p ≡ false → running q ≡ true → all (available r) p.dependencies ≡ true
  -- it ceases to be Active only if it is not in use
  pub stops : is_active p.phase ≡ true → is_active q.phase ≡ false → in_use r p ≡ false
  -- an Active plugin keeps its values
  pub values : is_active p.phase ≡ true → q.provisions ≡ p.provisions

module _ (r : Registry) (b : Built r) (p q : Plugin) (e : lookup r q.id ≡ Some p) (t : Turn r p q) where
  -- an Active plugin is another one than p, where p does not run
  elsewhere : running p ≡ false → (k : Port) (v : Served r k) → eqb q.id v.id ≡ false
  elsewhere n k v = ne_eqb q.id v.id λ i.
      let f : lookup r q.id ≡ Some v.plugin = ap (lookup r) i ∙ v.registered in
      let g : p ≡ v.plugin = cc in
      let y : running v.plugin ≡ true = rw v.active in
      true≢false (sym y ∙ ap running (sym g) ∙ n)

  turn_wired : Rewired r q.id (Some p) (Some q)
  turn_wired = record {
    start = λ y k m.
        let m' = subst (In k) t.alike.dependencies m in
        by_test (running p)
        (λ z. inl (record { id = q.id; plugin = p; registered = e; runs = z; depends = m' }))
        (λ n. let v = available_served r b.once k (all_true (available r) p.dependencies k (t.starts n y) m') in
        inr (v, elsewhere n k v));
    stay = λ a k h want. (
      by_test (is_active q.phase) (λ y. is_active_lem q.phase y)
          (λ n. absurd (true≢false (sym h ∙ not_in_use r p (t.stops (ap is_active a) n) k want))),
      alike_provides p q t.alike k ∙ h,
    );
    claim = λ k h y a f g n. eqb-false q.id y n (b.wired.sole q.id y p a k e f (sym (alike_provides p q t.alike k) ∙ h) g);
  }

  -- its rows are as many as before
  pub turn_rows : (vs : List ℕ) → rows_in_use (after r (stores q vs)) ≡ rows_in_use r
  unfolding after rows_in_use
  turn_rows vs = rows_stored r.places q λ s n i.
      let f : lookup r q.id ≡ Some s = subst (λ x. lookup r x ≡ Some s) i (distinct r b.once s n) in
      let j : p ≡ s = cc in
      alike_rows p q t.alike ∙ ap rows_of j

  -- its list is the one that it was, and so is its parent's
  turn_ruled : (r' : Registry) → Only r r' q.id (Some p) (Some q) → Ruled (inherited_from (parent_of r' q.parent)) q
  turn_ruled r' o =
      let h = alike_ruled p q _ t.alike (b.ruled p (lookup_in r q.id p e)) in
      let i = ap (λ v. inherited_from (parent_of r v)) (sym t.alike.parent) in
      let j = parents_stay r r' q.id (Some p) (Some q) o q.parent (λ _. t.alike.dependencies) in
      subst (λ l. Ruled l q) (i ∙ j) h

  pub turn_built : (vs : List ℕ) → Built (after r (stores q vs))
  unfolding after
  turn_built vs =
      let only = only_stored r vs p q e in
      let m = b.members p (lookup_in r q.id p e) in
      built_after r (after r (stores q vs)) q.id (Some p) (Some q) b record {
        only = only;
        wiring = turn_wired;
        room = length_stored r.places q;
        first = refl;
        next = le_refl _;
        ids = b.next;
        rows = rw (turn_rows vs) b.rows;
        once = stored_once r vs b.once q;
        member = record {
          issued = rw t.alike.id m.issued;
          below = rw t.alike.id m.below;
          older = λ x i. rw t.alike.id (m.older x (sym t.alike.parent ∙ i));
          parent = λ x i. found_after r (after r (stores q vs)) q.id (Some p) (Some q) only x (λ _. refl) (m.parent x (sym t.alike.parent ∙ i));
          shaped = alike_shaped p q t.alike m.shaped;
          lively = t.lively m.lively;
        };
        parents = λ a n i. refl;
        lists = λ a n i. t.alike.dependencies;
        ruled = turn_ruled (after r (stores q vs)) only;
        ranked = turn_ranked r b p q e t.alike t.starts (after r (stores q vs)) only b.ranked;
      }

-- The plugin q comes in, under the next id.
pub record Join (r : Registry) (q : Plugin) : Type 0 where
  pub id : q.id ≡ r.next
  pub ids : r.next ≢ last
  pub room : count r < max_plugins
  pub rows : rows_in_use r + rows_of q ≤ max_rows
  pub parent : (x : ℕ) → q.parent ≡ Some x → is_some (lookup r x) ≡ true
  pub shaped : Shaped q
  pub ruled : Ruled (inherited_from (parent_of r q.parent)) q
  pub lively : Lively q
  pub rests : running q ≡ false
  pub untaken : (k : Port) → provides q k ≡ true → is_some (provider r k) ≡ false

-- a registered id is below next
below : (r : Registry) → Built r → (x : ℕ) → is_some (lookup r x) ≡ true → x < r.next
below r b x e = go (lookup r x) refl e
  where
    go : (u : Option Plugin) → lookup r x ≡ u → is_some u ≡ true → x < r.next
    go None i h = absurd (true≢false (sym h))
    go (Some p) i h = rw (lookup_id r x p i) at (b.members p (lookup_in r x p i)).below

-- so an id from next on is not registered
pub fresh : (r : Registry) → Built r → (x : ℕ) → r.next ≤ x → lookup r x ≡ None
fresh r b x l = go (lookup r x) refl
  where
    go : (u : Option Plugin) → lookup r x ≡ u → u ≡ None
    go None e = refl
    go (Some p) e = let m = below r b x (ap is_some e) in absurd (omega arith)

module _ (r : Registry) (b : Built r) (q : Plugin) (j : Join r q) where
  join_wired : Rewired r q.id None (Some q)
  join_wired = record {
    start = λ y. absurd (true≢false (sym y ∙ j.rests));
    stay = tt;
    claim = λ k h y a f g n. unprovided r k (j.untaken k h) y a f g;
  }

  -- it had not been there, and there is a place for it
  free : lookup r q.id ≡ None
  free = fresh r b q.id (omega (arith, j.id))

  roomy : length (plugins r) < length r.places
  unfolding count
  roomy = omega (arith, j.room, b.room)

  pub join_only : (vs : List ℕ) → Only r (after r (adds q vs)) q.id None (Some q)
  join_only vs = only_added r vs b.once q free roomy

  pub join_rows : (vs : List ℕ) → rows_in_use (after r (adds q vs)) ≡ rows_in_use r + rows_of q
  unfolding after rows_in_use
  join_rows vs = rows_added r.places q roomy

  -- it is nobody's parent
  unparent : is_some (lookup r q.id) ≡ true → ⊥
  unparent h = true≢false (sym h ∙ ap is_some free)

  join_ruled : (r' : Registry) → Only r r' q.id None (Some q) → Ruled (inherited_from (parent_of r' q.parent)) q
  join_ruled r' o =
      let i = parents_stay r r' q.id None (Some q) o q.parent (λ i. absurd (unparent (j.parent q.id i))) in
      subst (λ l. Ruled l q) i j.ruled

  pub join_built : (vs : List ℕ) → Built (after r (adds q vs))
  unfolding after
  join_built vs =
      let only = join_only vs in
      built_after r (after r (adds q vs)) q.id None (Some q) b record {
        only = only;
        wiring = join_wired;
        room = length_added r.places q;
        first = refl;
        next = omega arith;
        ids = omega (arith, j.ids, b.next);
        rows = rw (join_rows vs) j.rows;
        once = added_once r vs b.once q free;
        member = record {
          issued = omega (arith, j.id, b.first);
          below = omega (arith, j.id);
          older = λ x i. rw j.id (below r b x (j.parent x i));
          parent = λ x i. found_after r (after r (adds q vs)) q.id None (Some q) only x (λ _. refl) (j.parent x i);
          shaped = j.shaped;
          lively = j.lively;
        };
        parents = λ a n i. refl;
        lists = λ a n i. absurd (unparent ((b.members a n).parent q.id i));
        ruled = join_ruled (after r (adds q vs)) only;
        ranked = ranked_resting r (after r (adds q vs)) q None only b.ranked 0 j.rests;
      }

-- The plugin p, registered under id, Idle and without children, goes.
pub record Leave (r : Registry) (id : ℕ) (p : Plugin) : Type 0 where
  pub idle : is_idle p.phase ≡ true
  pub childless : any (is_child_of id) (plugins r) ≡ false

module _ (r : Registry) (b : Built r) (id : ℕ) (p : Plugin) (e : lookup r id ≡ Some p) (l : Leave r id p) where
  leave_wired : Rewired r id (Some p) None
  leave_wired = record {
    start = tt;
    stay = λ a. let i : false ≡ true = rw a at l.idle in absurd (true≢false (sym i));
    claim = tt;
  }

  pub leave_rows : (vs : List ℕ) → rows_in_use (after r (removes id vs)) + rows_of p ≡ rows_in_use r
  unfolding after rows_in_use lookup
  leave_rows vs = rows_freed r.places id p b.once e

  -- 18: it is nobody's parent
  childless : (a : Plugin) → In a (plugins r) → a.parent ≡ Some id → ⊥
  childless a n i =
      let c = any_false (is_child_of id) (plugins r) a l.childless n in
      let d : eqb id id ≡ false = rw i at c in
      eqb-false id id d refl

  leave_ranked : (r' : Registry) → Only r r' id (Some p) None → Ranked (plugins r')
  leave_ranked r' o = record { rank = b.ranked.rank; falls = λ a c m n. b.ranked.falls a c (old a m) (old c n) }
    where
      old : (a : Plugin) → In a (plugins r') → In a (plugins r)
      old a m = ⊎_elim (λ i. let z : ◌≡◌ {A = ℕ} 0 1 = cc in absurd (omega arith)) (λ n. n.0) (o.members a m)

  pub leave_built : (vs : List ℕ) → Built (after r (removes id vs))
  unfolding after
  leave_built vs = built_after r (after r (removes id vs)) id (Some p) None b record {
    only = only_freed r vs id p e;
    wiring = leave_wired;
    room = length_freed r.places id;
    first = refl;
    next = le_refl _;
    ids = b.next;
    rows = let n = leave_rows vs in omega (arith, b.rows);
    once = freed_once r vs b.once id;
    member = tt;
    parents = λ a n i. absurd (childless a n i);
    lists = λ a n i. absurd (childless a n i);
    ruled = tt;
    ranked = leave_ranked (after r (removes id vs)) (only_freed r vs id p e);
  }
