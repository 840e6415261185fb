-- The words of a registry with its plugins from the lowest place on by rising id say that registry, and are dense.
use Rattle.std.specs.Prelude.{ℕ, ◌+◌, ◌≤◌, ◌≡◌, true, List, [], ◌∷◌, ◌++◌, leb, length}
use Rattle.std.proofs.Common.{arith, append_assoc, append-nil, length-append, leb-true}
use Rattle.rules.specs.Basics.{all}
use Rattle.rules.specs.Conditions.{ids_rise, within_limits, lists_short}
use Rattle.rules.specs.Holds.{Plugin, sum_rows}
use Rattle.rules.specs.Limits.{max_plugins, max_rows}
use Rattle.rules.specs.Load.{in_places}
use Rattle.rules.specs.Text.{Said}
use Rattle.rules_laws.specs.Laws.Tests.{both}
use Rattle.memory.specs.View.{view}
use Rattle.memory_rows.specs.Dense.{Dense}
use Rattle.memory_load.specs.Loading.{words_of}
use Rattle.memory_load.proofs.SoFar.{SoFar, so_far_start, so_far_next, so_far_words, sum_append}

module _ (domain first next : ℕ) where
  abbrev said : List Plugin → Said
  said ps = record { domain = domain; first = first; next = next; plugins = ps }

  -- the plugins that are left, behind those that are written
  rest : {from : ℕ} {done : List Plugin} {m : List ℕ} (ps : List Plugin) → SoFar domain first next from done m → ids_rise from next ps ≡ true
      → length done + length ps ≤ max_plugins → sum_rows done + sum_rows ps ≤ max_rows → all lists_short ps ≡ true
      → Dense (words_of (in_places (said (done ++ ps)))) × (view (words_of (in_places (said (done ++ ps)))) ≡ in_places (said (done ++ ps)))
  rest {from} {done} {m} [] f rises few room short =
      rw (append-nil done, ← so_far_words domain first next f) (f.dense, f.registry)
  rest {from} {done} {m} (p ∷ ps) f rises few room short =
      let a = both (leb from p.id) (ids_rise (p.id + 1) next ps) rises in
      let b = both (lists_short p) (all lists_short ps) short in
      let one = so_far_next domain first next f p (leb-true from p.id a.0) (omega arith) b.0 (omega arith) in
      let more = rest {from = p.id + 1} ps one a.1 (omega (arith, length-append done (p ∷ []))) (omega (arith, sum_append done (p ∷ []))) b.1 in
      rw append_assoc at more

module _ (s : Said) (rises : ids_rise s.first s.next s.plugins ≡ true) (limits : within_limits s.plugins ≡ true)
    (short : all lists_short s.plugins ≡ true) where
  both_limits : (length s.plugins ≤ max_plugins) × (sum_rows s.plugins ≤ max_rows)
  both_limits =
      let b = both (leb (length s.plugins) max_plugins) (leb (sum_rows s.plugins) max_rows) limits in
      (leb-true _ _ b.0, leb-true _ _ b.1)

  whole : Dense (words_of (in_places s)) × (view (words_of (in_places s)) ≡ in_places s)
  whole = rest s.domain s.first s.next s.plugins (so_far_start s.domain s.first s.next) rises
      (omega (arith, both_limits.0)) (omega (arith, both_limits.1)) short

  pub words_dense : Dense (words_of (in_places s))
  words_dense = whole.0

  pub words_view : view (words_of (in_places s)) ≡ in_places s
  words_view = whole.1
