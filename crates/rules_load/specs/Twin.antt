-- The conditions on a text, and what every run keeps: each says the other.
use Rattle.std.specs.Prelude.{ℕ, ◌≤◌, ◌≡◌, refl, Bool, true, false, ◌&&◌, List, leb, ltb, length, Option, Some, None}
use Rattle.std.proofs.Common.{arith, sym, ap, ◌∙◌, subst, lt-ltb, ltb-true, le-leb, leb-true}
use Rattle.std.proofs.Math.Path.{subst⁻¹}
use Rattle.std.proofs.lemmas.Bool.{not-true}
use Rattle.rules_types.specs.declared.Port.{Port}
use Rattle.rules.specs.Basics.{all, or_none, is_some, twice}
use Rattle.rules.specs.Limits.{max_plugins, max_rows}
use Rattle.rules.specs.Holds.{Plugin, Registry, plugins, provides, running, lookup, rows_in_use, sum_rows, is_active}
use Rattle.rules.specs.Registration.{parent_of, inherited_from, repeats}
use Rattle.rules.specs.Text.{Said, by_id, said}
use Rattle.rules.specs.Conditions.{among, ids_rise, parent_lower, lists_short, realms_rise, claims_of, provisions_resolved, parent_in, by_rule, begun_once}
use Rattle.rules.specs.Conditions.{idle_clean, active_whole, queued_within, active_in, dependencies_served, loadable}
use Rattle.rules_laws.specs.Laws.Tests.{by_test, both}
use Rattle.rules_laws.specs.Laws.Lookups.{lookup_id}
use Rattle.rules_laws.specs.Laws.Members.{In, any_some, all_true, lookup_in}
use Rattle.rules_laws.specs.Laws.Table.{is_active_lem}
use Rattle.rules_laws.specs.Built.{ids_of, Ruled, Served, Wanted, Member, Built}
use Rattle.rules_laws.specs.Kept.Places.{distinct}
use Rattle.text_laws.specs.Rising.{by_id_rises}
use Rattle.text_laws.specs.Sizes.{held_most}
use Rattle.rules_load.specs.Formed.{Formed}
use Rattle.rules_load.specs.Meets.{Meets, loadable_meets, meets_loadable}
use Rattle.rules_load.specs.Laws.Lists.{all_intro, any_intro}
use Rattle.rules_load.specs.Laws.One.{shaped_short, shaped_resolved, lively_begun, lively_clean, lively_whole, lively_queued, tests_shaped, tests_lively}
use Rattle.rules_load.specs.Laws.Sorting.{Lists, lists_sorted, rises_end, rises_within, strictly_rises}
use Rattle.rules_load.specs.Laws.Cycles.{ranked_acyclic, acyclic_ranked}
use Rattle.rules_load.specs.Laws.Rule.{ruled_found, found_ruled}
use Rattle.rules_load.specs.Laws.Claims.{own_apart, one_claims, all_apart}

-- The registry's numbers with some plugins in order.
abbrev saying : Registry → List Plugin → Said
saying r ps = record { domain = r.domain; first = r.first; next = r.next; plugins = ps }

-- All of a registry's plugins, in some order.
module _ (r : Registry) (ps : List Plugin) (l : Lists r ps) where
  list_of_parent : (v : Option ℕ) → inherited_from (parent_in ps v) ≡ inherited_from (parent_of r v)
  list_of_parent None = refl
  list_of_parent (Some x) = rw (l.finds x)

  module _ (b : Built r) where
    member : (a : Plugin) → In a ps → Member r a
    member a m = b.members a (l.here a m)

    each : (f : Plugin → Bool) → ((a : Plugin) → Member r a → f a ≡ true) → all f ps ≡ true
    each f g = all_intro f ps (λ a m. g a (member a m))

    lower : (a : Plugin) → Member r a → parent_lower ps a ≡ true
    lower a m = go a.parent refl
      where
        go : (v : Option ℕ) → a.parent ≡ v → or_none (λ x. ltb x a.id && is_some (among ps x)) v ≡ true
        go None e = refl
        go (Some x) e = rw (lt-ltb x a.id (m.older x e), l.finds x) (m.parent x e)

    serves : (a : Plugin) → In a ps → dependencies_served ps a ≡ true
    serves a m = by_test (running a)
        (λ y. rw y (all_intro (active_in ps) a.dependencies λ k n.
        let v = b.wired.served k (record {
          id = a.id;
          plugin = a;
          registered = distinct r b.once a (l.here a m);
          runs = y;
          depends = n;
        }) in
        any_intro (λ (q : Plugin). is_active q.phase && provides q k) ps v.plugin (l.there v.plugin (lookup_in r v.id v.plugin v.registered))
        (rw v.active v.gives)))
        (λ n. rw n)

    few : length ps ≤ max_plugins
    few = let d = held_most r.places in let e = l.count in let f = b.room in omega arith

    pub built_meets : ids_rise r.first r.next ps ≡ true → Meets (saying r ps)
    built_meets rise = record {
      rise = rise;
      parents = each (parent_lower ps) lower;
      limits = rw (le-leb (length ps) max_plugins few, l.rows) (le-leb (rows_in_use r) max_rows b.rows);
      short = each lists_short (λ a m. shaped_short a m.shaped);
      realms = each realms_rise (λ a m. m.shaped.rise);
      ports = rw (all_apart ps l.once (λ a m. (member a m).shaped.apart) λ a c k m n x y.
          b.wired.sole a.id c.id a c k (distinct r b.once a (l.here a m)) (distinct r b.once c (l.here c n)) x y);
      resolved = each provisions_resolved (λ a m. shaped_resolved a m.shaped);
      ruled = all_intro (by_rule ps) ps λ a m.
          ruled_found a _ (subst⁻¹ (λ ports. Ruled ports a) (list_of_parent a.parent) (b.ruled a (l.here a m)));
      begun = each begun_once (λ a m. lively_begun a m.lively);
      idle = each idle_clean (λ a m. lively_clean a m.lively);
      active = each active_whole (λ a m. lively_whole a m.lively);
      queued = each queued_within (λ a m. lively_queued a m.lively);
      served = all_intro (dependencies_served ps) ps serves;
      acyclic = ranked_acyclic ps few (record { rank = b.ranked.rank; falls = λ a c m n. b.ranked.falls a c (l.here a m) (l.here c n) });
    }

    formed : Formed (saying r ps)
    formed = record {
      next = b.next;
      revision = λ a m. (member a m).lively.revision;
      generation = λ a m. (member a m).lively.generation;
    }

  module _ (room : length r.places ≡ max_plugins) (once : twice (ids_of (plugins r)) ≡ false) (f : Formed (saying r ps)) (c : Meets (saying r ps)) where
    told : (f : Plugin → Bool) → all f ps ≡ true → (a : Plugin) → In a (plugins r) → f a ≡ true
    told t e a m = all_true t ps a e (l.there a m)

    parent_told : (a : Plugin) → In a (plugins r) → (x : ℕ) → a.parent ≡ Some x → (ltb x a.id ≡ true) × (is_some (among ps x) ≡ true)
    parent_told a m x e = both (ltb x a.id) (is_some (among ps x)) (rw e at (told (parent_lower ps) c.parents a m))

    apart : repeats (claims_of ps) ≡ false
    apart = not-true _ c.ports

    back_member : (a : Plugin) → In a (plugins r) → Member r a
    back_member a m =
        let within = rises_within r.next r.first ps c.rise a (l.there a m) in
        record {
          issued = within.0;
          below = within.1;
          older = λ x e. ltb-true x a.id (parent_told a m x e).0;
          parent = λ x e. rw (l.finds x) at (parent_told a m x e).1;
          shaped = tests_shaped a (told lists_short c.short a m) (told realms_rise c.realms a m) (told provisions_resolved c.resolved a m)
              (own_apart ps apart a (l.there a m));
          lively = tests_lively a (told begun_once c.begun a m) (told idle_clean c.idle a m) (told active_whole c.active a m)
              (told queued_within c.queued a m) (f.revision a (l.there a m)) (f.generation a (l.there a m));
        }

    back_served : (k : Port) → Wanted r k → Served r k
    back_served k want =
        let m = lookup_in r want.id want.plugin want.registered in
        let e : all (active_in ps) want.plugin.dependencies ≡ true = rw want.runs at (told (dependencies_served ps) c.served want.plugin m) in
        let s = any_some (λ (q : Plugin). is_active q.phase && provides q k) ps (all_true (active_in ps) want.plugin.dependencies k e want.depends) in
        let w = both (is_active s.0.phase) (provides s.0 k) s.2 in
        record {
          id = s.0.id;
          plugin = s.0;
          registered = distinct r once s.0 (l.here s.0 s.1);
          active = is_active_lem s.0.phase w.0;
          gives = w.1;
        }

    back_sole : (x y : ℕ) (p q : Plugin) (k : Port) → lookup r x ≡ Some p → lookup r y ≡ Some q → provides p k ≡ true → provides q k ≡ true → x ≡ y
    back_sole x y p q k i j g h =
        let e = one_claims ps apart p q k (l.there p (lookup_in r x p i)) (l.there q (lookup_in r y q j)) g h in
        sym (lookup_id r x p i) ∙ ap (λ (v : Plugin). v.id) e ∙ lookup_id r y q j

    pub meets_built : Built r
    meets_built = record {
      room = room;
      first = rises_end r.next r.first ps c.rise;
      next = f.next;
      rows = leb-true (rows_in_use r) max_rows (rw l.rows at (both (leb (length ps) max_plugins) (leb (sum_rows ps) max_rows) c.limits).1);
      once = once;
      members = back_member;
      wired = record { served = back_served; sole = back_sole };
      ruled = λ a m. subst (λ ports. Ruled ports a) (list_of_parent a.parent) (found_ruled a _ (told (by_rule ps) c.ruled a m));
      ranked = let k = acyclic_ranked ps c.acyclic in record { rank = k.rank; falls = λ a b m n. k.falls a b (l.there a m) (l.there b n) };
    }

-- What every run keeps meets the conditions.
pub built_loadable : (r : Registry) → Built r → loadable (said r) ≡ true
built_loadable r b =
    let ps = by_id (plugins r) in
    let l = lists_sorted r b.once in
    meets_loadable (said r) (built_meets r ps l b
    (strictly_rises r.next r.first ps b.first (by_id_rises (plugins r)) λ a m. let k = b.members a (l.here a m) in (k.issued, k.below)))

-- And where they are met, a run can start. That no id stands in two places the text cannot say: it has each id once.
pub loadable_built : (r : Registry) → length r.places ≡ max_plugins → twice (ids_of (plugins r)) ≡ false → Formed (said r)
    → loadable (said r) ≡ true → Built r
loadable_built r room once f e = meets_built r (by_id (plugins r)) (lists_sorted r once) room once f (loadable_meets (said r) e)
