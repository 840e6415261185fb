-- Document 02 [6]'s orders, computed: what passes, what is planned, and what the planner leaves in the buffer.
use Rattle.std.specs.Prelude.{ℕ, ◌+◌, ◌≡◌, refl, true, false, List, [], ◌∷◌, map, Some, None}
use Rattle.rules.specs.Holds.{port, First, Plugin, Registry, Phase, Idle, Loading, Active, Unissued, lookup, provider}
use Rattle.rules.specs.Registration.{unoffered}
use Rattle.rules.specs.Outcomes.{Refused, Accepted, checked, answer_of, lent_after}
use Rattle.rules.specs.Orders.{supplied, passes, plan_behind, plan, lower_first, check_order, plan_order}

-- a plugin that needs some keys and gives others; its anchor's key is its id and 1,000
abbrev driver : ℕ → Phase → List ℕ → List ℕ → Plugin
driver id phase needs gives = record {
  id = id;
  parent = None;
  anchor = port (1000 + id) 0;
  realms = record { edition = First; rows = [] };
  dependencies = map (λ k. port k 0) needs;
  provisions = map (λ k. unoffered (port k 0)) gives;
  revision = 0;
  payload = 40;
  phase = phase;
  retired = false;
  generation = 1;
  root = Unissued;
}

-- 3 runs and gives 31, 8 is Loading and gives 81; 5 needs what 10 gives, 7 needs 31, 9 needs 81 and 7's anchor; 20 and 21 need each
-- other, 30 needs its own anchor
abbrev night : Registry
night = record {
  domain = 7;
  first = 0;
  next = 100;
  places = map (λ (p : Plugin). Some p)
      (driver 10 Idle [] (11 ∷ [])
      ∷ driver 5 Idle (11 ∷ []) []
      ∷ driver 3 Active [] (31 ∷ [])
      ∷ driver 7 Idle (31 ∷ []) []
      ∷ driver 8 Loading [] (81 ∷ [])
      ∷ driver 9 Idle (81 ∷ 1007 ∷ []) []
      ∷ driver 20 Idle (22 ∷ []) (23 ∷ [])
      ∷ driver 21 Idle (23 ∷ []) (22 ∷ [])
      ∷ driver 30 Idle (1030 ∷ []) []
      ∷ []);
}

abbrev three : List ℕ
three = 5 ∷ 7 ∷ 10 ∷ []

abbrev buffer : List ℕ
buffer = 1 ∷ 2 ∷ 3 ∷ []

pub record Orders : Type 0 where
  -- at each place the lowest that can come, whatever the set's own order
  pub lowest_first : plan night three ≡ Some (7 ∷ 10 ∷ 5 ∷ [])
  pub set_shuffled : plan night (10 ∷ 5 ∷ 7 ∷ []) ≡ Some (7 ∷ 10 ∷ 5 ∷ [])
  pub empty : plan night [] ≡ Some []
  -- no provider in the set, one that is Loading, a circle, the own anchor
  pub provider_left_out : plan night (5 ∷ 7 ∷ []) ≡ None
  pub provider_loading : plan night (7 ∷ 9 ∷ []) ≡ None
  pub circle : plan night (20 ∷ 21 ∷ []) ≡ None
  pub own_anchor : plan night (30 ∷ []) ≡ None
  -- what passes, and which is the lower of two
  pub planned : passes night three (7 ∷ 10 ∷ 5 ∷ []) ≡ true
  pub another : passes night three (10 ∷ 5 ∷ 7 ∷ []) ≡ true
  pub lower : lower_first (7 ∷ 10 ∷ 5 ∷ []) (10 ∷ 5 ∷ 7 ∷ []) ≡ true
  pub not_lower : lower_first (10 ∷ 5 ∷ 7 ∷ []) (7 ∷ 10 ∷ 5 ∷ []) ≡ false
  pub too_early : passes night three (5 ∷ 7 ∷ 10 ∷ []) ≡ false
  pub left_out : passes night three (7 ∷ 10 ∷ []) ≡ false
  pub one_more_lem : passes night (7 ∷ 10 ∷ []) (7 ∷ 10 ∷ 5 ∷ []) ≡ false
  pub foreign : passes night (7 ∷ 10 ∷ []) (10 ∷ 5 ∷ []) ≡ false
  pub unknown : passes night (7 ∷ 10 ∷ []) (10 ∷ 99 ∷ []) ≡ false
  pub twice : passes night (7 ∷ 10 ∷ []) (7 ∷ 7 ∷ []) ≡ false
  -- the front of the buffer is written and its rest stays; none writes nothing
  pub answered : answer_of (plan_order night (5 ∷ 10 ∷ []) buffer) ≡ Accepted (2 ∷ [])
  pub written : lent_after buffer (plan_order night (5 ∷ 10 ∷ []) buffer) ≡ 10 ∷ 5 ∷ 3 ∷ []
  pub none_answered : answer_of (plan_order night (5 ∷ 7 ∷ []) buffer) ≡ Accepted []
  pub none_written : lent_after buffer (plan_order night (5 ∷ 7 ∷ []) buffer) ≡ buffer
  pub room_for_all : answer_of (plan_order night three buffer) ≡ Accepted (3 ∷ [])
  pub room_for_fewer : answer_of (plan_order night three (1 ∷ 2 ∷ [])) ≡ Refused 23 []
  pub checked_too : answer_of (check_order night (5 ∷ 3 ∷ []) []) ≡ Refused 3 []

pub orders : Orders
unfolding lookup provider supplied passes plan_behind check_order plan_order checked lent_after
orders = record {
  lowest_first = refl;
  set_shuffled = refl;
  empty = refl;
  provider_left_out = refl;
  provider_loading = refl;
  circle = refl;
  own_anchor = refl;
  planned = refl;
  another = refl;
  lower = refl;
  not_lower = refl;
  too_early = refl;
  left_out = refl;
  one_more_lem = refl;
  foreign = refl;
  unknown = refl;
  twice = refl;
  answered = refl;
  written = refl;
  none_answered = refl;
  none_written = refl;
  room_for_all = refl;
  room_for_fewer = refl;
  checked_too = refl;
}
