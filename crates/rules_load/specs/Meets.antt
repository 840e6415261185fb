-- Document 02 [4]'s conditions by name.
use Rattle.std.specs.Prelude.{◌≡◌, true}
use Rattle.rules.specs.Basics.{all}
use Rattle.rules.specs.Text.{Said}
use Rattle.rules.specs.Conditions.{ids_rise, parent_lower, within_limits, lists_short, realms_rise, ports_differ, provisions_resolved, by_rule, begun_once}
use Rattle.rules.specs.Conditions.{idle_clean, active_whole, queued_within, dependencies_served, no_cycles, conditions, loadable}
use Rattle.rules_load.specs.Laws.Lists.{Every, every_true}

pub record Meets (s : Said) : Type 0 where
  pub rise : ids_rise s.first s.next s.plugins ≡ true
  pub parents : all (parent_lower s.plugins) s.plugins ≡ true
  pub limits : within_limits s.plugins ≡ true
  pub short : all lists_short s.plugins ≡ true
  pub realms : all realms_rise s.plugins ≡ true
  pub ports : ports_differ s.plugins ≡ true
  pub resolved : all provisions_resolved s.plugins ≡ true
  pub ruled : all (by_rule s.plugins) s.plugins ≡ true
  pub begun : all begun_once s.plugins ≡ true
  pub idle : all idle_clean s.plugins ≡ true
  pub active : all active_whole s.plugins ≡ true
  pub queued : all queued_within s.plugins ≡ true
  pub served : all (dependencies_served s.plugins) s.plugins ≡ true
  pub acyclic : no_cycles s.plugins ≡ true

pub loadable_meets : (s : Said) → loadable s ≡ true → Meets s
unfolding loadable
loadable_meets s e = go (every_true (conditions s) e)
  where
    go : Every (conditions s) → Meets s
    go c =
        let c₃ = c.1.1.1 in
        let c₆ = c₃.1.1.1 in
        let c₉ = c₆.1.1.1 in
        let d = c₉.1.1.1 in
        record {
          rise = c.0;
          parents = c.1.0;
          limits = c.1.1.0;
          short = c₃.0;
          realms = c₃.1.0;
          ports = c₃.1.1.0;
          resolved = c₆.0;
          ruled = c₆.1.0;
          begun = c₆.1.1.0;
          idle = c₉.0;
          active = c₉.1.0;
          queued = c₉.1.1.0;
          served = d.0;
          acyclic = d.1.0;
        }

pub meets_loadable : (s : Said) → Meets s → loadable s ≡ true
unfolding loadable
meets_loadable s c =
    rw (
      c.rise,
      c.parents,
      c.limits,
      c.short,
      c.realms,
      c.ports,
      c.resolved,
      c.ruled,
      c.begun,
      c.idle,
      c.active,
      c.queued,
      c.served,
      c.acyclic,
    )
