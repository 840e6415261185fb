-- What the checks of a set come to, a provider in time, and the steps of an order.
use Rattle.std.specs.Prelude.{Option, Some, None, Ok, Err}
use Prim.Native.Nat.{ℕ, ◌+◌, ◌%◌, ◌≤◌, ◌<◌}
use native.Mathlib.Numerals.{add-one}
use mathlib.Core.Path.{◌≡◌, sym, ap, ◌∙◌}
use mathlib.Core.Bool.{Bool, true, false, ◌&&◌}
use mathlib.Core.List.{List, [], ◌∷◌, ◌++◌}
use lib.ListN.{length, get_or, take, drop, drop_of_length-le}
use lib.Seq.{drop-cons, take-suc}
use Rattle.rules.specs.Basics.{all, yes_no}
use Rattle.rules.specs.Holds.{Registry, is_active}
use Rattle.rules.specs.Answers.{verdict}
use Rattle.rules.specs.Outcomes.{Refused, Accepted, answers, answer_of}
use Rattle.rules.specs.Orders.{named, id_checks, checks_behind, set_checks, in_time, supplied, can_come, passes, check_order}
use Rattle.rules.specs.Ports.{pairs}
use Rattle.rules.specs.Refusals.{Refusal, number}
use Rattle.rules_types.specs.declared.Port.{Port}
use Rattle.rules_laws.specs.Laws.Verdicts.{verdict_first, verdict_then, checked_pass, checked_refuses, refused_answer}
use Rattle.rules_orders.specs.Follows.{follow, passes_other, passes_same}
use Rattle.memory.specs.Layout.{id_at, dep_part, places}
use Rattle.memory.specs.View.{life_at, plugin_at, view}
use Rattle.memory.specs.Writes.{find_at}
use Rattle.memory.specs.Known.{at_place, at_lookup, none_lookup}
use Rattle.memory.specs.declared.Life.{Life}
use Rattle.memory_providers.specs.Providers.{provider_at, provider_view, provider_place, provider_active}

-- the set's, id by id
module _ (r : Registry) (ids : List ℕ) (i : ℕ) where
  pub set_end : length ids ≤ i → verdict (checks_behind r (take i ids) (drop i ids)) ≡ Ok tt
  unfolding verdict
  set_end h = rw (drop_of_length-le ids h)

  module _ (h : i < length ids) where
    checks_at : checks_behind r (take i ids) (drop i ids)
        ≡ id_checks r (take i ids) (get_or ids i 0) ++ checks_behind r (take (i + 1) ids) (drop (i + 1) ids)
    checks_at = rw (add-one i, drop-cons ids i 0 h, take-suc ids i 0 h)

    pub set_refused : (x : Refusal) → Err x ≡ verdict (id_checks r (take i ids) (get_or ids i 0))
        → verdict (checks_behind r (take i ids) (drop i ids)) ≡ Err x
    set_refused x e = ap verdict checks_at ∙ verdict_first _ _ x (sym e)

    pub set_next : Ok tt ≡ verdict (id_checks r (take i ids) (get_or ids i 0))
        → verdict (checks_behind r (take i ids) (drop i ids)) ≡ verdict (checks_behind r (take (i + 1) ids) (drop (i + 1) ids))
    set_next e = ap verdict checks_at ∙ verdict_then _ _ (sym e)

-- a provider's phase decides, or its id
module _ (m before : List ℕ) (q : Port) (x : Option ℕ) (e : x ≡ provider_at m q) where
  pub in_time_none : x ≡ None → false ≡ in_time (view m) before q
  in_time_none f = rw (provider_view m q, sym e ∙ f)

  module _ (i : ℕ) (f : x ≡ Some i) (l : Life) (g : l ≡ life_at m (i % places)) (b : Bool) (h : b ≡ is_active l.phase) where
    pub in_time_active : b ≡ true → b ≡ in_time (view m) before q
    in_time_active t = t ∙ rw (provider_view m q, sym e ∙ f) (rw (provider_active m q x e i f l g b h ∙ t))

    pub in_time_named : b ≡ false → (id : ℕ) → id ≡ id_at m (i % places) → (d : Bool) → d ≡ named id before → d ≡ in_time (view m) before q
    unfolding plugin_at
    in_time_named n id k d j =
        let s : id ≡ id_at m i = k ∙ ap (id_at m) (provider_place m q x e i f) in
        rw (provider_view m q, sym e ∙ f) (rw (provider_active m q x e i f l g b h ∙ n) (j ∙ ap (λ z. named z before) s))

-- a plugin's dependencies
module _ (m before : List ℕ) (id : ℕ) where
  pub supplied_none : find_at m id ≡ None → false ≡ supplied (view m) before id
  unfolding supplied
  supplied_none e = rw (none_lookup m id e)

  pub supplied_found : (i : ℕ) → find_at m id ≡ Some i → (ws : List ℕ) → ws ≡ dep_part m (i % places)
      → (b : Bool) → b ≡ all (in_time (view m) before) (pairs ws) → b ≡ supplied (view m) before id
  unfolding supplied plugin_at
  supplied_found i e ws g b h =
      let s : ws ≡ dep_part m i = g ∙ ap (dep_part m) (at_place m id i e) in
      h ∙ ap (λ z. all (in_time (view m) before) (pairs z)) s ∙ sym (rw (at_lookup m id i e))

-- an order, id by id
module _ (r : Registry) (set order : List ℕ) where
  pub pass_length : (length order ≡ length set → ⊥) → false ≡ passes r set order
  pass_length n = sym (passes_other r set order n)

  pub pass_start : length order ≡ length set → passes r set order ≡ follow r set (take 0 order) (drop 0 order)
  pass_start e = passes_same r set order e

  module _ (i : ℕ) where
    pub follow_end : length order ≤ i → follow r set (take i order) (drop i order) ≡ true
    follow_end h = rw (drop_of_length-le order h)

    module _ (h : i < length order) (b : Bool) (e : b ≡ (named (get_or order i 0) set && can_come r (take i order) (get_or order i 0))) where
      and_then : (x y z : Bool) → (x && y) ≡ b → (x && (y && z)) ≡ (b && z)
      and_then true y z g = ap (λ w. w && z) g
      and_then false y z g = ap (λ w. w && z) g

      follow_at : follow r set (take i order) (drop i order) ≡ (b && follow r set (take (i + 1) order) (drop (i + 1) order))
      follow_at = rw (add-one i, drop-cons order i 0 h, take-suc order i 0 h) (and_then (named (get_or order i 0) set) (can_come r (take i order) (get_or order i 0)) _ (sym e))

      pub follow_not : b ≡ false → follow r set (take i order) (drop i order) ≡ false
      follow_not f = follow_at ∙ rw f

      pub follow_on : b ≡ true → follow r set (take i order) (drop i order) ≡ follow r set (take (i + 1) order) (drop (i + 1) order)
      follow_on t = follow_at ∙ rw t

-- The checker's answers, once the set's verdict is known.
module _ (r : Registry) (set order : List ℕ) where
  pub order_refused : (x : Refusal) → Err x ≡ verdict (set_checks r set) → Refused (number x) [] ≡ answer_of (check_order r set order)
  unfolding check_order
  order_refused x e = sym (refused_answer _ x (checked_refuses (set_checks r set) (answers (yes_no (passes r set order) ∷ [])) x (sym e)))

  pub order_told : Ok tt ≡ verdict (set_checks r set) → (b : Bool) → b ≡ passes r set order
      → Accepted (yes_no b ∷ []) ≡ answer_of (check_order r set order)
  unfolding check_order
  order_told e b f = rw (checked_pass (set_checks r set) (answers (yes_no (passes r set order) ∷ [])) (sym e)) (rw f)
