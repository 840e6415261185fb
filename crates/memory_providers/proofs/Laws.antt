-- The steps of looking for a provider.
use Rattle.std.specs.Prelude.{Some, None}
use Prim.Native.Nat.{ℕ, suc, ◌+◌, ◌-◌, ◌<◌, ◌≤◌}
use native.Mathlib.Omega.{arith}
use mathlib.Core.Path.{◌≡◌, sym, ap, ◌∙◌}
use mathlib.Core.Bool.{Bool, true, false, ◌&&◌, or-true, or-false}
use mathlib.Core.List.{List}
use Rattle.rules.specs.Holds.{Plugin, is_in, provides, provided, same_port}
use Rattle.rules_types.specs.declared.Port.{Port}
use Rattle.rules.specs.Ports.{pairs}
use Rattle.memory.specs.Layout.{taken, prov_part, places}
use Rattle.memory.specs.View.{anchor_at, plugin_at}
use Rattle.memory.specs.Lookups.{search_from}
use Rattle.memory_lists.specs.Listed.{provided_at}

-- the anchor, then the provisions
module _ (m : List ℕ) (p : ℕ) (q a : Port) (e : a ≡ anchor_at m p) where
  pub provides_anchor : same_port q a ≡ true → true ≡ provides (plugin_at m p) q
  unfolding plugin_at
  provides_anchor t =
      let h : same_port q (anchor_at m p) ≡ true = ap (same_port q) (sym e) ∙ t in
      sym (rw h (or-true (is_in q (provided (plugin_at m p)))))

  pub provides_provision : same_port q a ≡ false → (ws : List ℕ) → ws ≡ prov_part m p
      → (b : Bool) → b ≡ is_in q (pairs ws) → b ≡ provides (plugin_at m p) q
  unfolding plugin_at
  provides_provision n ws f b g =
      let h : same_port q (anchor_at m p) ≡ false = ap (same_port q) (sym e) ∙ n in
      g ∙ ap (λ l. is_in q (pairs l)) f ∙ ap (is_in q) (sym (provided_at m p)) ∙ sym (rw h (or-false (is_in q (provided (plugin_at m p)))))

one_less : (i : ℕ) → i < places → places - i ≡ suc (places - (i + 1))
one_less i h = omega arith

module _ (f : Plugin → Bool) (m : List ℕ) (i : ℕ) where
  pub search_here : i < places → (taken m i && f (plugin_at m i)) ≡ true → search_from f (places - i) m i ≡ Some i
  unfolding search_from
  search_here h y = rw (one_less i h) (rw y)

  pub search_next : i < places → (taken m i && f (plugin_at m i)) ≡ false → search_from f (places - i) m i ≡ search_from f (places - (i + 1)) m (i + 1)
  unfolding search_from
  search_next h n = rw (one_less i h) (rw n)

  pub search_end : places ≤ i → search_from f (places - i) m i ≡ None
  unfolding search_from
  search_end h = let e : places - i ≡ 0 = omega arith in rw e
