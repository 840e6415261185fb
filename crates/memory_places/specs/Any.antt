-- A test over the registered plugins, place by place.
use Rattle.std.specs.Prelude.{ℕ, suc, ◌+◌, ◌-◌, ◌<◌, ◌≤◌, ◌≡◌, Bool, true, false, List}
use native.Mathlib.Omega.{arith}
use Rattle.std.proofs.Math.Path.{refl}
use Rattle.std.proofs.Common.{sym, ◌∙◌}
use Rattle.rules.specs.Basics.{any}
use Rattle.rules.specs.Holds.{Plugin, held, plugins}
use Rattle.memory.specs.Layout.{taken, places}
use Rattle.memory.specs.View.{plugin_at, place_at, places_from, view}

-- whether one of the plugins of n places from i on passes
unfoldable pub any_from : (Plugin → Bool) → ℕ → List ℕ → ℕ → Bool
any_from f n m i = any f (held (places_from n m i))

module _ (f : Plugin → Bool) (m : List ℕ) where
  pub any_plugins : any f (plugins (view m)) ≡ any_from f places m 0
  unfolding any_from view
  any_plugins = refl

  module _ (i : ℕ) where
    pub any_end : places ≤ i → any_from f (places - i) m i ≡ false
    unfolding any_from places_from
    any_end h = let s : places - i ≡ 0 = omega arith in rw s

    module _ (h : i < places) where
      one_less : places - i ≡ suc (places - (i + 1))
      one_less = omega arith

      pub any_free : taken m i ≡ false → any_from f (places - i) m i ≡ any_from f (places - (i + 1)) m (i + 1)
      unfolding any_from places_from place_at
      any_free n = rw one_less (rw n)

      module _ (b : Bool) (t : taken m i ≡ true) (c : b ≡ f (plugin_at m i)) where
        pub any_here : b ≡ true → any_from f (places - i) m i ≡ true
        unfolding any_from places_from place_at
        any_here y = rw one_less (rw t (rw (sym c ∙ y)))

        pub any_not : b ≡ false → any_from f (places - i) m i ≡ any_from f (places - (i + 1)) m (i + 1)
        unfolding any_from places_from place_at
        any_not n = rw one_less (rw t (rw (sym c ∙ n)))

      -- taken or not
      pub any_never : (b : Bool) → b ≡ f (plugin_at m i) → b ≡ false → any_from f (places - i) m i ≡ any_from f (places - (i + 1)) m (i + 1)
      any_never b c n = either (taken m i) refl
        where
          either : (t : Bool) → taken m i ≡ t → any_from f (places - i) m i ≡ any_from f (places - (i + 1)) m (i + 1)
          either true t = any_not b t c n
          either false t = any_free t
