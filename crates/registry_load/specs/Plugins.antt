-- The plugins of a text, one after the other: what holds once some have joined, one more, and one that does not.
use Rattle.std.specs.Prelude.{ℕ, ◌+◌, ◌-◌, ◌≤◌, ◌<◌, ◌≡◌, refl, true, false, leb, drop, Option, Some, None}
use native.Mathlib.Omega.{arith}
use Rattle.std.proofs.Math.Path.{sym, ap}
use Rattle.std.proofs.Common.{◌∙◌, subst}
use mathlib.Core.List.{List, [], ◌∷◌, ◌++◌, map, map-append, append_assoc}
use Rattle.std.proofs.Math.ListN.{length, length-append, length-map}
use borrow.Author.Tests.{leb-true, ltb-true}
use Rattle.rules.specs.Limits.{max_plugins, max_rows}
use Rattle.rules.specs.Holds.{Plugin, plugins, rows_of, sum_rows}
use Rattle.rules.specs.Text.{Said, block}
use Rattle.rules.specs.Conditions.{lists_short, loadable}
use Rattle.rules.specs.Load.{unqueued}
use Rattle.rules_load.specs.Joining.{ports_join, life_fits, standing, joins, join_all, behind_ids}
use Rattle.rules_load.specs.Joins.{join_all_snoc, behind_ids_snoc, many_refused}
use Rattle.rules_load.specs.Meets.{loadable_meets}
use Rattle.rules_load.specs.Laws.Sorting.{rises_end}
use Rattle.rules_laws.specs.Laws.Tests.{by_test}
use Rattle.rules_load.specs.Laws.Lists.{chained_true}
use Rattle.rules_laws.specs.Laws.Placed.{held_placed}
use Rattle.rules_load.specs.Laws.Joining.{rows_append}
use Rattle.rules_load.specs.Laws.Unqueued.{rows_unqueued}
use Rattle.memory.specs.View.{view}
use Rattle.memory.specs.Writes.{opened_with}
use Rattle.memory_load.specs.Loading.{loaded_plugin, zeros}
use Rattle.memory_load.proofs.SoFar.{SoFar, so_far_start, so_far_next}
use Rattle.text_form.specs.Forms.{Read, found, torn, and_then, read_many}
use Rattle.text_form.proofs.Forms.{torn_found, many_exact}
use Rattle.rules.proofs.Text.{block_lawful}
use Rattle.text_read_number.specs.Reads.{read_from, read_at, Reads}
use Rattle.text_read.specs.Lists.{many_none, many_more, line_torn, many_left}
use Rattle.registry_block.specs.declared.Joined.{Joined}
use Rattle.registry_load.specs.Joined.{fits, fits_passes, unfit_refused}

-- A block that does not join: torn, or its plugin does not fit.
pub data Apart (t : List ℕ) (at : ℕ) (w : List ℕ) (from next rows : ℕ) : Type 0 where
  torn_block : Reads block.read t at None → Apart t at w from next rows
  unfit_block : (p : Plugin) (n : ℕ) → Reads block.read t at (Some (p, n)) → fits w from next rows p ≡ false → Apart t at w from next rows

-- What is left of a block at a place: the plugin in the words, or nothing that is asked for again.
pub data JoinRead (t : List ℕ) (at : ℕ) (w : List ℕ) (place from next rows : ℕ) : Option Joined → List ℕ → Type 0 where
  refused : (w' : List ℕ) → Apart t at w from next rows → JoinRead t at w place from next rows None w'
  joined : (p : Plugin) (n : ℕ) → Reads block.read t at (Some (p, n)) → fits w from next rows p ≡ true
      → JoinRead t at w place from next rows (Some (record { next = n; rows = rows + rows_of p; from = p.id + 1 }))
      (loaded_plugin w place rows next (unqueued p))

-- Some plugins have joined.
pub record PluginsSoFar (t : List ℕ) (at domain first next : ℕ) (w : List ℕ) (place rows from k : ℕ) : Type 0 where
  pub done : List Plugin
  pub reads : Reads (read_many block k) t at (Some (done, place))
  pub count : k ≡ length done
  pub written : SoFar domain first next from (map unqueued done) w
  pub ids : from ≡ behind_ids first done
  pub used : rows ≡ sum_rows done
  pub within_next : from ≤ next
  pub room : rows ≤ max_rows
  pub join : join_all first [] done ≡ true

-- No plugins that are read here make a text that loads.
abbrev pub Unfit : List ℕ → (at count first next : ℕ) → Type 0
Unfit t at count first next =
    (s : Said) (rest : List ℕ) → s.first ≡ first → s.next ≡ next → read_from (read_many block count) t at ≡ found s.plugins rest → loadable s ≡ false

pub data PluginsRead (t : List ℕ) (at count domain first next : ℕ) : Option ℕ → List ℕ → Type 0 where
  stopped : (w : List ℕ) → Unfit t at count first next → PluginsRead t at count domain first next None w
  all : {w : List ℕ} {n rows from : ℕ} → PluginsSoFar t at domain first next w n rows from count → PluginsRead t at count domain first next (Some n) w

-- what follows some that were read
behind_some : (l m : List Plugin) (r : Read (List Plugin)) (rest : List ℕ) → and_then r (λ k s. found (l ++ k) s) ≡ found m rest
    → (k : List Plugin) × (m ≡ l ++ k)
behind_some l m (found k s) rest e = (k, cc)
behind_some l m torn rest e = torn_found m rest e

module _ (t : List ℕ) (at domain first next : ℕ) where
  pub plugins_start : at ≤ length t → first ≤ next → PluginsSoFar t at domain first next (opened_with zeros domain first next) at 0 first 0
  unfolding join_all
  plugins_start h l = record {
    done = [];
    reads = many_none block t at h;
    count = refl;
    written = so_far_start domain first next;
    ids = refl;
    used = refl;
    within_next = l;
    room = omega arith;
    join = refl;
  }

  module _ {w : List ℕ} {place rows from k : ℕ} (f : PluginsSoFar t at domain first next w place rows from k)
      (count : ℕ) (h : k < count) (most : count ≤ max_plugins) where
    few : length f.done ≤ max_plugins
    few = omega (arith, f.count)

    held : plugins (view w) ≡ map unqueued f.done
    held = ap plugins f.written.registry ∙ held_placed max_plugins (map unqueued f.done) f.written.few

    pub plugins_stop : Apart t place w from next rows → Unfit t at count first next
    plugins_stop (torn_block x) s rest a b e =
        let none = line_torn block k f.reads count h x in
        torn_found s.plugins rest (none.said ∙ e)
    plugins_stop (unfit_block p n x u) s rest a b e =
        let left = many_left block (k + 1) (many_more block k f.reads x) count (omega arith) in
        let more = behind_some (f.done ++ p ∷ []) s.plugins (read_from (read_many block (count - (k + 1))) t n) rest (sym left ∙ e) in
        unfit_refused w from next f.done p few held s more.0 (f.ids ∙ ap (λ i. behind_ids i f.done) (sym a)) (sym b)
        (more.1 ∙ append_assoc f.done (p ∷ []) more.0) (ap (λ r. fits w from next r p) (sym f.used) ∙ u)

    pub plugins_more : (p : Plugin) (n : ℕ) → Reads block.read t place (Some (p, n)) → fits w from next rows p ≡ true
        → PluginsSoFar t at domain first next (loaded_plugin w k rows next (unqueued p)) n (rows + rows_of p) (p.id + 1) (k + 1)
    unfolding joins
    plugins_more p n x y =
        let done = f.done in
        let passes = fits_passes w from next done p few held (ap (λ r. fits w from next r p) (sym f.used) ∙ y) in
        let asked = chained_true (leb from p.id)
        (leb (sum_rows done + rows_of p) max_rows ∷ lists_short p ∷ ports_join (standing done) p ∷ life_fits p ∷ []) passes.joined in
        let same : sum_rows (map unqueued done) ≡ rows = rows_unqueued done ∙ sym f.used in
        let size : length (map unqueued done) ≡ k = length-map done unqueued ∙ sym f.count in
        let room = leb-true (sum_rows done + rows_of p) max_rows asked.1.0 in
        let one = so_far_next domain first next f.written (unqueued p) (leb-true from p.id asked.0) (omega arith) asked.1.1.0
        (omega (arith, rows_unqueued done)) in
        record {
          done = done ++ p ∷ [];
          reads = many_more block k f.reads x;
          count = omega (arith, f.count, length-append done (p ∷ []));
          written = rw (map-append unqueued done (p ∷ [])) (subst (λ i. SoFar domain first next (p.id + 1) (map unqueued done ++ unqueued p ∷ [])
              (loaded_plugin w i rows next (unqueued p))) size (subst (λ r. SoFar domain first next (p.id + 1) (map unqueued done ++ unqueued p ∷ [])
              (loaded_plugin w (length (map unqueued done)) r next (unqueued p))) same one));
          ids = sym (behind_ids_snoc first done p);
          used = ap (λ r. r + rows_of p) f.used ∙ sums done p;
          within_next = let i = ltb-true p.id next passes.issued in omega arith;
          room = omega (arith, f.used);
          join = join_all_snoc first done p ∙ rw (f.join, ← f.ids) passes.joined;
        }
      where
        sums : (l : List Plugin) (p : Plugin) → sum_rows l + rows_of p ≡ sum_rows (l ++ p ∷ [])
        sums l p = let z : rows_of p + 0 ≡ rows_of p = omega arith in sym (rows_append l (p ∷ []) ∙ ap (λ n. sum_rows l + n) z)

    -- By what was done with the next block.
    pub plugins_torn : {w' : List ℕ} → JoinRead t place w k from next rows None w' → (w'' : List ℕ) → PluginsRead t at count domain first next None w''
    plugins_torn (refused w' a) w'' = stopped w'' (plugins_stop a)

    pub plugins_next : {r : Joined} {w' : List ℕ} → JoinRead t place w k from next rows (Some r) w'
        → PluginsSoFar t at domain first next w' r.next r.rows r.from (k + 1)
    plugins_next (joined p m x y) = plugins_more p m x y

-- Too many plugins, and a next id below the first.
pub many_unfit : (t : List ℕ) (at count first next : ℕ) → at ≤ length t → max_plugins < count → Unfit t at count first next
many_unfit t at count first next h most s rest a b e =
    let k = many_exact block block_lawful count (drop at t) s.plugins rest (sym (read_at (read_many block count) t at h) ∙ e) in
    many_refused s (omega (arith, k.long))

pub order_unfit : (t : List ℕ) (at count first next : ℕ) → next < first → Unfit t at count first next
order_unfit t at count first next h s rest a b e = by_test (loadable s)
    (λ y. absurd (omega (arith, a, b, rises_end s.next s.first s.plugins (loadable_meets s y).rise)))
    (λ n. n)

-- By the answer.
module _ {t : List ℕ} {at count domain first next : ℕ} where
  pub plugins_unfit : {w : List ℕ} → PluginsRead t at count domain first next None w → Unfit t at count first next
  plugins_unfit (stopped w u) = u

  pub plugins_all : {n : ℕ} {w : List ℕ} → PluginsRead t at count domain first next (Some n) w
      → (rows : ℕ) × (from : ℕ) × PluginsSoFar t at domain first next w n rows from count
  plugins_all (all {rows = rows} {from = from} f) = (rows, from, f)
