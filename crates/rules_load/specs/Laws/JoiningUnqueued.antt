-- A Queued root that loads as Unissued changes nothing that is asked of the ports of the next plugin.
use Rattle.std.specs.Prelude.{ℕ, ◌≤◌, ◌≡◌, refl, List, map, length, Option, Some, None}
use Rattle.std.proofs.Common.{sym, ap, ◌∙◌}
use Rattle.rules.specs.Basics.{is_some, or_none}
use Rattle.rules.specs.Limits.{max_plugins}
use Rattle.rules.specs.Holds.{Plugin, Registry, plugins}
use Rattle.rules.specs.Load.{unqueued}
use Rattle.rules.specs.Conditions.{among}
use Rattle.rules_load.specs.Laws.Unqueued.{there_unqueued, parents_unqueued}
use Rattle.rules_load.specs.Joining.{ports_join, standing}
use Rattle.rules_load.specs.Laws.Joining.{ports_among, ports_among_lem, ports_standing}

ports_unqueued : (ps : List Plugin) (p : Plugin) → ports_among (map unqueued ps) p ≡ ports_among ps p
ports_unqueued ps p = rw (parent p.parent, parents_unqueued ps p.parent)
  where
    parent : (v : Option ℕ) → or_none (λ x. is_some (among (map unqueued ps) x)) v ≡ or_none (λ x. is_some (among ps x)) v
    parent None = refl
    parent (Some x) = there_unqueued ps x

-- A registry of the plugins so far, as they load, asks the same of the next one.
pub unqueued_same : (r : Registry) (done : List Plugin) (p : Plugin) → plugins r ≡ map unqueued done → length done ≤ max_plugins
    → ports_join r p ≡ ports_join (standing done) p
unqueued_same r done p i few = ports_among_lem r p ∙ ap (λ l. ports_among l p) i ∙ ports_unqueued done p ∙ sym (ports_standing done few p)
