-- Claimed ports against a place's, all at once.
use Rattle.std.specs.Prelude.{Option}
use Prim.Native.Nat.{ℕ, ◌+◌, ◌*◌, ◌<◌, ◌%◌}
use native.Mathlib.Nat.{mod-eq_of_lt}
use mathlib.Core.Path.{◌≡◌, sym, ap, ◌∙◌}
use mathlib.Core.Bool.{Bool, true, ◌&&◌}
use mathlib.Core.List.{List}
use lib.ListN.{length}
use Rattle.rules.specs.Basics.{any, is_some}
use Rattle.rules.specs.Holds.{Plugin, held, provides, provider, same_port}
use Rattle.rules_types.specs.declared.Port.{Port}
use Rattle.rules.specs.Ports.{pairs}
use Rattle.rules_laws.specs.Laws.Members.{same_swap}
use Rattle.memory.specs.Layout.{part, start_at, deps_at, provs_at, memory_words, places, rows_start, row_words}
use Rattle.memory.specs.View.{plugin_at, places_from, view}
use Rattle.memory.specs.Lookups.{placed, search_from, search_first}
use Rattle.memory_providers.specs.declared.KeyBits.{KeyBits}
use Rattle.memory_providers.specs.Providers.{offered_part, no_bits, key_bits, wanted}
use Rattle.memory_providers.specs.Claimed.{wanted_is, any_same, offered_is}
use Rattle.memory_providers.proofs.Exchange.{exchange, is_first}

-- the words, by what is read of the place
pub offered_words_lem : (m l : List ℕ) (j s d n : ℕ) → s ≡ start_at m j → d ≡ deps_at m j → n ≡ provs_at m j
    → l ≡ part m ((s + d) * row_words + rows_start) ((n + 1) * row_words) → l ≡ offered_part m j
offered_words_lem m l j s d n e f g h = rw (e, f, g) at h

module _ (m : List ℕ) (i : ℕ) (size : length m ≡ memory_words) where
  -- whichever of the two lists is gone through
  met : (qs : List Port) → any (λ q. wanted (key_bits no_bits qs) qs q) (pairs (offered_part m i)) ≡ any (λ q. provides (plugin_at m i) q) qs
  met qs =
      any_same _ _ (wanted_is qs) (pairs (offered_part m i))
      ∙ exchange (λ (p q : Port). same_port q p) qs (pairs (offered_part m i))
      ∙ any_same _ _ (λ q. any_same _ _ (λ p. same_swap p q) (pairs (offered_part m i)) ∙ offered_is m i size q) qs

  -- where a test of the place passed
  pub offers_claimed : (t : Bool) (qs : List Port) (w : KeyBits) (b : Bool) → w ≡ key_bits no_bits qs
      → b ≡ (t && any (λ q. wanted w qs q) (pairs (offered_part m i)))
      → b ≡ (t && any (λ q. provides (plugin_at m i) q) qs)
  offers_claimed t qs w b e f =
      f ∙ ap (λ x. t && any (λ q. wanted x qs q) (pairs (offered_part m i))) e ∙ ap (λ x. t && x) (met qs)

-- a place's own number
pub offers_one_lem : (y : Bool) (m : List ℕ) (i : ℕ) (ws : List ℕ) (f : Port → Bool) (b : Bool) → i < places → y ≡ true → ws ≡ offered_part m (i % places)
    → b ≡ any f (pairs ws) → b ≡ (y && any f (pairs (offered_part m i)))
offers_one_lem y m i ws f b h t e g =
    let n : i % places ≡ i = mod-eq_of_lt h in
    rw t (g ∙ ap (λ l. any f (pairs l)) (e ∙ ap (offered_part m) n))

-- the first place whose plugin provides one of the ports
abbrev pub one_from : List Port → ℕ → List ℕ → ℕ → Option ℕ
one_from qs n m i = search_from (λ (p : Plugin). any (λ q. provides p q) qs) n m i

pub provided_one : (m : List ℕ) (qs : List Port) → any (λ q. is_some (provider (view m) q)) qs ≡ is_some (placed m (one_from qs places m 0))
unfolding provider view
provided_one m qs =
    let ps = held (places_from places m 0) in
    let f : Plugin → Bool = λ p. any (λ q. provides p q) qs in
    any_same _ _ (λ q. is_first (λ (p : Plugin). provides p q) ps) qs ∙ exchange (λ (p : Plugin) (q : Port). provides p q) ps qs ∙ sym (is_first f ps)
    ∙ ap is_some (search_first f places m 0)
