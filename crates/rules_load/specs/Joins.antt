-- A reader may ask document 02 [4]'s conditions plugin by plugin, and then of all: a text meets them exactly if its plugins are joined.
use Rattle.std.specs.Prelude.{ℕ, ◌+◌, ◌<◌, ◌≡◌, refl, Bool, true, false, ◌&&◌, List, [], ◌∷◌, ◌++◌, leb, length}
use Rattle.std.proofs.Common.{arith, sym, ap, ◌∙◌, subst, true≢false, append-nil, length-append, leb-true, le-leb}
use Rattle.std.proofs.Math.Bool.{and-true}
use Rattle.std.proofs.Math.Seq.{append_snoc}
use Rattle.std.proofs.lemmas.Bool.{lt-leb}
use Rattle.rules.specs.Basics.{all}
use Rattle.rules.specs.Limits.{max_plugins, max_rows}
use Rattle.rules.specs.Holds.{Plugin, rows_of, sum_rows}
use Rattle.rules.specs.Text.{Said}
use Rattle.rules.specs.Conditions.{ids_rise, parent_lower, within_limits, lists_short, realms_rise, ports_differ, provisions_resolved, by_rule}
use Rattle.rules.specs.Conditions.{begun_once, idle_clean, active_whole, queued_within, dependencies_served, no_cycles, loadable}
use Rattle.rules_laws.specs.Laws.Tests.{by_test, both}
use Rattle.rules_laws.specs.Laws.Members.{all_true}
use Rattle.rules_load.specs.Joining.{joins, join_all, behind_ids, joined}
use Rattle.rules_load.specs.Meets.{Meets, loadable_meets, meets_loadable}
use Rattle.rules_load.specs.Laws.Lists.{chained_true}
use Rattle.rules_load.specs.Laws.Joining.{rows_append, rises_behind, next_above, parent_before, list_before}
pub use Rattle.rules_load.specs.Laws.Unqueued.{served_unqueued, cycles_unqueued}
pub use Rattle.rules_load.specs.Laws.JoiningUnqueued.{unqueued_same}
pub use Rattle.rules_load.specs.Laws.JoiningServed.{available_active, available_served}
use Rattle.rules_load.specs.Laws.JoiningFits.{Fits, fits_joins, join_all_append, all_rise, all_rows, in_middle, each_passes}

-- One more behind.
pub join_all_snoc : (from : ℕ) (done : List Plugin) (p : Plugin)
    → join_all from [] (done ++ p ∷ []) ≡ (join_all from [] done && joins (behind_ids from done) done p)
unfolding join_all
join_all_snoc from done p =
    join_all_append from [] done (p ∷ []) ∙ ap (λ b. join_all from [] done && b) (and-true (joins (behind_ids from done) done p))

pub behind_ids_snoc : (from : ℕ) (done : List Plugin) (p : Plugin) → behind_ids from (done ++ p ∷ []) ≡ p.id + 1
behind_ids_snoc from [] p = refl
behind_ids_snoc from (q ∷ done) p = behind_ids_snoc (q.id + 1) done p

-- Plugins that join one after the other meet the conditions,
joined_meets : (s : Said) → joined s ≡ true → Meets s
joined_meets s e =
    let f = s.first in
    let n = s.next in
    let ps = s.plugins in
    let asked = join_all f [] ps ∷ leb (behind_ids f ps) n ∷ ports_differ ps ∷ all (dependencies_served ps) ps ∷ no_cycles ps ∷ [] in
    let w = chained_true (leb (length ps) max_plugins) asked e in
    let few = leb-true (length ps) max_plugins w.0 in
    let rise = all_rise f n [] ps few w.1.0 w.1.1.0 in
    let each = each_passes f n ps few w.1.0 rise in
    record {
      rise = rise;
      parents = each parent_lower (λ done p rest i h. sym (parent_before f n done p rest i p.parent) ∙ h.parent);
      limits = rw (w.0, all_rows f [] ps few w.1.0 refl);
      short = each (λ _. lists_short) (λ done p rest i h. h.short);
      realms = each (λ _. realms_rise) (λ done p rest i h. h.realms);
      ports = w.1.1.1.0;
      resolved = each (λ _. provisions_resolved) (λ done p rest i h. h.resolved);
      ruled = each by_rule (λ done p rest i h. rw (list_before f n done p rest i p.parent h.parent) h.ruled);
      begun = each (λ _. begun_once) (λ done p rest i h. h.begun);
      idle = each (λ _. idle_clean) (λ done p rest i h. h.idle);
      active = each (λ _. active_whole) (λ done p rest i h. h.active);
      queued = each (λ _. queued_within) (λ done p rest i h. h.queued);
      served = w.1.1.1.1.0;
      acyclic = w.1.1.1.1.1.0;
    }

within : (s : Said) → within_limits s.plugins ≡ true → (leb (length s.plugins) max_plugins ≡ true) × (leb (sum_rows s.plugins) max_rows ≡ true)
within s e = both (leb (length s.plugins) max_plugins) (leb (sum_rows s.plugins) max_rows) e

-- and those that meet them join.
module _ (s : Said) (c : Meets s) (done : List Plugin) (p : Plugin) (rest : List Plugin) (i : s.plugins ≡ done ++ p ∷ rest) where
  passes : (t : List Plugin → Plugin → Bool) → all (t s.plugins) s.plugins ≡ true → t (done ++ p ∷ rest) p ≡ true
  passes t e = all_true (t (done ++ p ∷ rest)) (done ++ p ∷ rest) p (subst (λ l. all (t l) l ≡ true) i e) (in_middle done p rest)

  meets_fits : Fits (behind_ids s.first done) done p
  meets_fits =
      let rise = subst (λ l. ids_rise s.first s.next l ≡ true) i c.rise in
      let parent = parent_before s.first s.next done p rest rise p.parent ∙ passes parent_lower c.parents in
      let most = leb-true (sum_rows s.plugins) max_rows (within s c.limits).1 in
      let sum = ap sum_rows i ∙ rows_append done (p ∷ rest) in
      record {
        above = le-leb _ _ (next_above s.first s.next done p rest rise);
        rows = le-leb (sum_rows done + rows_of p) max_rows (omega arith);
        short = passes (λ _. lists_short) c.short;
        parent = parent;
        realms = passes (λ _. realms_rise) c.realms;
        resolved = passes (λ _. provisions_resolved) c.resolved;
        ruled = rw (list_before s.first s.next done p rest rise p.parent parent) at (passes by_rule c.ruled);
        begun = passes (λ _. begun_once) c.begun;
        idle = passes (λ _. idle_clean) c.idle;
        active = passes (λ _. active_whole) c.active;
        queued = passes (λ _. queued_within) c.queued;
      }

  meets_joins : joins (behind_ids s.first done) done p ≡ true
  meets_joins =
      let few = leb-true (length s.plugins) max_plugins (within s c.limits).0 in
      let n = ap length i ∙ length-append done (p ∷ rest) in
      fits_joins (behind_ids s.first done) done p (omega arith) meets_fits

all_join : (from : ℕ) (done l : List Plugin)
    → ((mid : List Plugin) (p : Plugin) (rest : List Plugin) → l ≡ mid ++ p ∷ rest → joins (behind_ids from mid) (done ++ mid) p ≡ true)
    → join_all from done l ≡ true
unfolding join_all
all_join from done [] h = refl
all_join from done (p ∷ l) h =
    rw (
      rw (append-nil done) at (h [] p l refl),
      all_join (p.id + 1) (done ++ p ∷ []) l (λ mid q rest i. rw (append_snoc done p mid) (h (p ∷ mid) q rest (ap (λ m. p ∷ m) i))),
    )

meets_joined : (s : Said) → Meets s → joined s ≡ true
meets_joined s c =
    let f = s.first in
    let ps = s.plugins in
    let few = (within s c.limits).0 in
    let end = rises_behind f s.next ps [] (rw (append-nil ps) c.rise) in
    rw (few, all_join f [] ps (meets_joins s c), end, c.ports, c.served, c.acyclic)

pub joined_loadable : (s : Said) → joined s ≡ loadable s
joined_loadable s = by_test (loadable s)
    (λ y. meets_joined s (loadable_meets s y) ∙ sym y)
    (λ n. by_test (joined s)
    (λ y. y ∙ sym (meets_loadable s (joined_meets s y)))
    (λ m. m ∙ sym n))

-- A reader may stop at the first plugin that does not join.
pub early_refused : (s : Said) (done rest : List Plugin) (p : Plugin) → s.plugins ≡ done ++ p ∷ rest → joins (behind_ids s.first done) done p ≡ false
    → loadable s ≡ false
early_refused s done rest p i n = by_test (loadable s)
    (λ y. absurd (true≢false (sym (meets_joins s (loadable_meets s y) done p rest i) ∙ n)))
    (λ e. e)

-- or where there are too many.
pub many_refused : (s : Said) → max_plugins < length s.plugins → loadable s ≡ false
many_refused s h = sym (joined_loadable s) ∙ rw (lt-leb (length s.plugins) max_plugins h)
