-- A port's provider, looked for place by place.
use Rattle.std.specs.Prelude.{ℕ, suc, ◌+◌, ◌*◌, ◌/◌, ◌%◌, ◌<◌, ◌≡◌, Bool, ◌&&◌, List, [], ◌∷◌, length, Option, Some}
use Rattle.std.proofs.Common.{add-one, mod-eq_of_lt, arith, ◌∙◌, drop-cons}
use Rattle.std.proofs.Math.Numerals.{add-two}
use Rattle.std.proofs.Math.Path.{sym, ap}
use Rattle.rules.specs.Holds.{port, Plugin, is_in, is_active, provides, provider}
use Rattle.rules.specs.Ports.{pairs}
use Rattle.rules.specs.Conditions.{claims}
use Rattle.rules_types.specs.declared.Port.{Port}
use Rattle.memory.specs.Layout.{word, part, anchor_word, provs_at, memory_words, places, row_words}
use Rattle.memory.specs.View.{life_at, anchor_at, plugin_at, view}
use Rattle.memory_lists.specs.Listed.{provided_at}
use Rattle.memory.specs.Lookups.{placed, search_from, search_first, search_found}
use Rattle.memory.specs.declared.Life.{Life}
use Rattle.memory_providers.specs.declared.KeyBits.{KeyBits}
use Rattle.ports_bits.specs.Bits.{with_bit, has_bit}

-- the first place whose plugin has the port as provision or anchor
unfoldable pub provider_at : List ℕ → Port → Option ℕ
provider_at m q = search_from (λ (p : Plugin). provides p q) places m 0

pub provider_view : (m : List ℕ) (q : Port) → provider (view m) q ≡ placed m (provider_at m q)
unfolding provider view provider_at
provider_view m q = search_first (λ (p : Plugin). provides p q) places m 0

pub provider_below : (m : List ℕ) (q : Port) (i : ℕ) → provider_at m q ≡ Some i → i < places
unfolding provider_at
provider_below m q i e = (search_found (λ (p : Plugin). provides p q) places m 0 i e).below

-- where a port's provider stands, and whether it is Active, by the life that was read there
module _ (m : List ℕ) (q : Port) (x : Option ℕ) (e : x ≡ provider_at m q) (i : ℕ) (f : x ≡ Some i) where
  pub provider_place : i % places ≡ i
  provider_place = mod-eq_of_lt (provider_below m q i (sym e ∙ f))

  pub provider_active : (l : Life) → l ≡ life_at m (i % places) → (b : Bool) → b ≡ is_active l.phase → is_active (plugin_at m i).phase ≡ b
  unfolding plugin_at
  provider_active l g b h = sym (h ∙ ap (λ (y : Life). is_active y.phase) (g ∙ ap (life_at m) provider_place))

-- the words of a place's anchor and, right behind it, of its provisions
abbrev pub offered_part : List ℕ → ℕ → List ℕ
offered_part m i = part m (anchor_word m i) ((provs_at m i + 1) * row_words)

first_row : (m : List ℕ) (a n : ℕ) → a + 1 < length m → pairs (part m a ((n + 1) * 2)) ≡ port (word m a) (word m (a + 1)) ∷ pairs (part m (a + 2) (n * 2))
first_row m a n h =
    let e : (n + 1) * 2 ≡ suc (suc (n * 2)) = omega arith in
    let h₀ : a < length m = omega arith in
    let h₁ : suc a < length m = omega arith in
    rw (e, add-one a, add-two a, drop-cons m a 0 h₀, drop-cons m (suc a) 0 h₁)

-- they are its plugin's claims
pub offered_claims : (m : List ℕ) (i : ℕ) → length m ≡ memory_words → pairs (offered_part m i) ≡ claims (plugin_at m i)
unfolding plugin_at
offered_claims m i size =
    first_row m (anchor_word m i) (provs_at m i) (omega arith) ∙ ap (λ l. anchor_at m i ∷ l) (sym (provided_at m i))

-- the bits of the keys and of their quotients by 64; and whether a port's bits are there and the port too
abbrev pub no_bits : KeyBits
no_bits = record { low = 0; high = 0 }

abbrev pub with_key : KeyBits → ℕ → KeyBits
with_key b k = record { low = with_bit b.low k; high = with_bit b.high (k / 64) }

unfoldable pub key_bits : KeyBits → List Port → KeyBits
key_bits b [] = b
key_bits b (q ∷ qs) = key_bits (with_key b q.key) qs

abbrev pub wanted : KeyBits → List Port → Port → Bool
wanted b qs q = has_bit b.low q.key && has_bit b.high (q.key / 64) && is_in q qs
