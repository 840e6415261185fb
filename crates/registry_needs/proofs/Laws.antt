-- A port that is available by its provider, and the users of what a place offers.
use Rattle.std.specs.Prelude.{Option, Some, None}
use Rattle.std.proofs.Common.{ℕ, ◌%◌, ◌<◌, mod-eq_of_lt, ◌≡◌, sym, ap, ◌∙◌, Bool, true, false, ◌&&◌, ◌||◌, List, length}
use Rattle.rules.specs.Basics.{any}
use Rattle.rules.specs.Holds.{is_active, is_loading, running}
use Rattle.rules_types.specs.declared.Port.{Port}
use Rattle.rules.specs.Phases.{available}
use Rattle.rules.specs.Ports.{pairs}
use Rattle.memory.specs.Layout.{dep_part, memory_words, places}
use Rattle.memory.specs.View.{life_at, plugin_at, view}
use Rattle.memory.specs.declared.Life.{Life}
use Rattle.memory_providers.specs.declared.KeyBits.{KeyBits}
use Rattle.memory_providers.specs.Claimed.{meets_provides}
use Rattle.memory_providers.specs.Providers.{provider_at, provider_view, provider_active, offered_part, no_bits, key_bits, wanted}
use Rattle.registry_needs.specs.Users.{uses, user_at}

-- a port is available exactly if its provider is Active
module _ (m : List ℕ) (q : Port) (x : Option ℕ) (e : x ≡ provider_at m q) where
  pub available_none : x ≡ None → false ≡ available (view m) q
  available_none f = rw (provider_view m q, sym e ∙ f)

  pub available_active : (i : ℕ) → x ≡ Some i → (l : Life) → l ≡ life_at m (i % places) → (b : Bool) → b ≡ is_active l.phase → b ≡ available (view m) q
  available_active i f l g b h = rw (provider_view m q, sym e ∙ f) (sym (provider_active m q x e i f l g b h))

-- a plugin that runs, and one that does not
module _ (m : List ℕ) (u : ℕ) (k : KeyBits) (ps : List Port) (l : Life) (e : l ≡ life_at m u) (b : Bool)
    (f : b ≡ (is_loading l.phase || is_active l.phase)) where
  runs : (is_loading (plugin_at m u).phase || is_active (plugin_at m u).phase) ≡ b
  unfolding plugin_at
  runs = sym (f ∙ ap (λ (y : Life). is_loading y.phase || is_active y.phase) e)

  pub user_runs : b ≡ true → (ws : List ℕ) → ws ≡ dep_part m u → (x : Bool) → x ≡ any (wanted k ps) (pairs ws) → x ≡ uses k ps (plugin_at m u)
  unfolding plugin_at
  user_runs t ws g x h = h ∙ ap (λ y. any (wanted k ps) (pairs y)) g ∙ sym (rw (runs ∙ t))

  pub user_rests : b ≡ false → false ≡ uses k ps (plugin_at m u)
  user_rests n = rw (runs ∙ n)

-- by the bits of what a place offers, a user is a user of its plugin
module _ (m : List ℕ) (p : ℕ) (size : length m ≡ memory_words) (ws : List ℕ) (e : ws ≡ offered_part m p) (k : KeyBits) (f : k ≡ key_bits no_bits (pairs ws)) where
  pub own_place : (i : ℕ) → i < places → (b : Bool) → b ≡ uses k (pairs ws) (plugin_at m (i % places)) → b ≡ user_at m p (plugin_at m i)
  own_place i h b g =
      g ∙ ap (λ j. uses k (pairs ws) (plugin_at m j)) (mod-eq_of_lt h)
      ∙ ap (λ x. running (plugin_at m i) && x) (rw (f, e) (meets_provides m p size (plugin_at m i).dependencies))
