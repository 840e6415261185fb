-- The next plugin of a text: what is asked of it where those before it stand in the words, and that this is what the conditions ask.
use Rattle.std.specs.Prelude.{ℕ, ◌+◌, ◌≤◌, ◌≡◌, Bool, false, ◌&&◌, List, [], ◌∷◌, ◌++◌, map, length}
use Rattle.std.proofs.Common.{arith, ap, ◌∙◌, true≢false, lt-ltb}
use Rattle.std.proofs.Math.Path.{sym}
use Rattle.std.proofs.Math.Bool.{true}
use Rattle.std.proofs.Math.Dec.{leb, ltb}
use Rattle.rules.specs.Limits.{max_plugins, max_rows, max_realm_rows, max_dependencies, max_provision_keys}
use Rattle.rules.specs.Holds.{Plugin, plugins, rows_of, sum_rows}
use Rattle.rules.specs.Text.{Said}
use Rattle.rules.specs.Conditions.{ids_rise, lists_short, loadable}
use Rattle.rules.specs.Load.{unqueued}
use Rattle.rules_laws.specs.Laws.Tests.{by_test, both}
use Rattle.rules_load.specs.Joining.{ports_join, life_fits, standing, joins, behind_ids}
use Rattle.rules_load.specs.Joins.{early_refused, unqueued_same}
use Rattle.rules_load.specs.Meets.{loadable_meets}
use Rattle.rules_load.specs.Laws.Lists.{every_true, chained_true}
use Rattle.rules_load.specs.Laws.Joining.{rises_behind}
use Rattle.rules_load.specs.Laws.Sorting.{rises_end}
use Rattle.memory.specs.View.{view}
use Rattle.registry_block.specs.Lives.{counts_fit}

-- Its numbers, its life, and its ports beside those of the words.
unfoldable pub fits : List ℕ → (from next rows : ℕ) → Plugin → Bool
fits w from next rows p = counts_fit from next rows p && life_fits p && ports_join (view w) p

module _ (w : List ℕ) (from next : ℕ) (done : List Plugin) (p : Plugin) (few : length done ≤ max_plugins) (held : plugins (view w) ≡ map unqueued done) where
  same : ports_join (view w) p ≡ ports_join (standing done) p
  same = unqueued_same (view w) done p held few

  pub record Passes : Type 0 where
    pub joined : joins from done p ≡ true
    pub issued : ltb p.id next ≡ true

  pub fits_passes : fits w from next (sum_rows done) p ≡ true → Passes
  unfolding fits joins
  fits_passes e =
      let a = chained_true (counts_fit from next (sum_rows done) p) (life_fits p ∷ ports_join (view w) p ∷ []) e in
      let c = every_true
      (leb from p.id
      ∷ ltb p.id next
      ∷ leb (length p.realms.rows) max_realm_rows
      ∷ leb (length p.dependencies) max_dependencies
      ∷ leb (length p.provisions) max_provision_keys
      ∷ leb (sum_rows done + rows_of p) max_rows
      ∷ []) a.0 in
      let short : lists_short p ≡ true = rw (c.1.1.0, c.1.1.1.0) c.1.1.1.1.0 in
      record { joined = rw (c.0, c.1.1.1.1.1.0, short, sym same ∙ a.1.1.0, a.1.0); issued = c.1.0 }

  pub passes_fits : Passes → fits w from next (sum_rows done) p ≡ true
  unfolding fits joins
  passes_fits k =
      let a = chained_true (leb from p.id)
      (leb (sum_rows done + rows_of p) max_rows ∷ lists_short p ∷ ports_join (standing done) p ∷ life_fits p ∷ []) k.joined in
      let lists = chained_true (leb (length p.realms.rows) max_realm_rows)
      (leb (length p.dependencies) max_dependencies ∷ leb (length p.provisions) max_provision_keys ∷ []) a.1.1.0 in
      rw (a.0, k.issued, lists.0, lists.1.0, lists.1.1.0, a.1.0, a.1.1.1.1.0) (same ∙ a.1.1.1.0)

  -- A text in which the next plugin does not fit does not load.
  pub unfit_refused : (s : Said) (rest : List Plugin) → from ≡ behind_ids s.first done → next ≡ s.next → s.plugins ≡ done ++ p ∷ rest
      → fits w from next (sum_rows done) p ≡ false → loadable s ≡ false
  unfit_refused s rest f n e h = by_test (loadable s)
      (λ y. absurd (true≢false (sym (passes_fits (record {
        joined = by_test (joins from done p) (λ t. t)
            (λ u. absurd (true≢false (sym y ∙ early_refused s done rest p e (ap (λ k. joins k done p) (sym f) ∙ u))));
        issued =
            let rise = rises_behind s.first s.next done (p ∷ rest) (ap (ids_rise s.first s.next) (sym e) ∙ (loadable_meets s y).rise) in
            let more = both (leb (behind_ids s.first done) p.id) (ids_rise (p.id + 1) s.next rest) rise in
            let end = rises_end s.next (p.id + 1) rest more.1 in
            lt-ltb p.id next (omega (arith, n));
      })) ∙ h)))
      (λ u. u)
