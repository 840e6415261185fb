-- Claimed ports, looked for by the bits of their keys: a port is found exactly if it is claimed.
use Rattle.std.specs.Prelude.{ℕ, ◌/◌, ◌≡◌, refl, Bool, true, false, ◌&&◌, List, [], ◌∷◌, length}
use Rattle.std.proofs.Common.{ap, ◌∙◌, eqb-true}
use Rattle.std.proofs.Math.Bool.{and-false, or_comm}
use Rattle.rules.specs.Basics.{any}
use Rattle.rules.specs.Holds.{same_port, is_in, provides, provided}
use Rattle.rules.specs.Ports.{pairs}
use Rattle.rules_types.specs.declared.Port.{Port}
use Rattle.rules_laws.specs.Laws.Tests.{by_test, both}
use Rattle.memory.specs.Layout.{memory_words}
use Rattle.memory.specs.View.{plugin_at}
use Rattle.memory_providers.specs.declared.KeyBits.{KeyBits}
use Rattle.ports_bits.specs.Bits.{has_bit, bit_stays, bit_comes}
use Rattle.memory_providers.specs.Providers.{offered_part, offered_claims, no_bits, with_key, key_bits, wanted}

-- the bits of a key in both words
abbrev Has : KeyBits → ℕ → Type 0
Has b k = (has_bit b.low k ≡ true) × (has_bit b.high (k / 64) ≡ true)

stays : (b : KeyBits) (qs : List Port) (k : ℕ) → Has b k → Has (key_bits b qs) k
unfolding key_bits
stays b [] k e = e
stays b (q ∷ qs) k e =
    stays (with_key b q.key) qs k (bit_stays b.low q.key k e.0, bit_stays b.high (q.key / 64) (k / 64) e.1)

covers : (b : KeyBits) (qs : List Port) (q : Port) → is_in q qs ≡ true → Has (key_bits b qs) q.key
unfolding key_bits
covers b [] q e = (cc, cc)
covers b (p ∷ qs) q e =
    by_test (same_port q p)
    (λ t. let k : q.key ≡ p.key = eqb-true _ _ (both _ _ t).0 in
    stays (with_key b p.key) qs q.key (rw k (bit_comes b.low p.key, bit_comes b.high (p.key / 64))))
    (λ f. covers (with_key b p.key) qs q (rw f at e))

-- with the bits of their own keys
pub wanted_is : (qs : List Port) (q : Port) → wanted (key_bits no_bits qs) qs q ≡ is_in q qs
wanted_is qs q = by_test (is_in q qs)
    (λ t. let h = covers no_bits qs q t in rw (h.0, h.1, t))
    (λ f. rw f (both_false (has_bit (key_bits no_bits qs).low q.key) (has_bit (key_bits no_bits qs).high (q.key / 64))))
  where
    both_false : (a b : Bool) → (a && b && false) ≡ false
    both_false true b = and-false b
    both_false false b = refl

pub any_same : {A : Type 0} (f g : A → Bool) → ((q : A) → f q ≡ g q) → (qs : List A) → any f qs ≡ any g qs
any_same f g h [] = refl
any_same f g h (q ∷ qs) = let r = any_same f g h qs in rw (h q, r)

-- What a place offers is what its plugin provides: so of one port, and of a list against all that the place offers.
module _ (m : List ℕ) (i : ℕ) (size : length m ≡ memory_words) where
  pub offered_is : (q : Port) → is_in q (pairs (offered_part m i)) ≡ provides (plugin_at m i) q
  offered_is q =
      ap (is_in q) (offered_claims m i size)
      ∙ or_comm (same_port q (plugin_at m i).anchor) (is_in q (provided (plugin_at m i)))

  pub meets_provides : (l : List Port) → any (λ q. wanted (key_bits no_bits (pairs (offered_part m i))) (pairs (offered_part m i)) q) l ≡ any (provides (plugin_at m i)) l
  meets_provides l = any_same _ _ (λ q. wanted_is (pairs (offered_part m i)) q ∙ offered_is q) l
