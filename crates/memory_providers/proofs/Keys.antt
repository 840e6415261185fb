-- The steps of setting the bits of keys.
use Prim.Native.Nat.{ℕ, ◌/◌}
use mathlib.Core.Path.{◌≡◌}
use mathlib.Core.List.{List, [], ◌∷◌}
use Rattle.rules_types.specs.declared.Port.{Port}
use Rattle.memory_providers.specs.declared.KeyBits.{KeyBits}
use Rattle.ports_bits.specs.Bits.{with_bit}
use Rattle.memory_providers.specs.Providers.{key_bits}

-- a list of claims, one on
pub bits_next : (b : KeyBits) {l qs : List Port} {q : Port} {w x : ℕ} → l ≡ q ∷ qs → w ≡ with_bit b.low q.key → x ≡ with_bit b.high (q.key / 64)
    → key_bits b l ≡ key_bits (record { low = w; high = x }) qs
unfolding key_bits
bits_next b s e f = rw (s, e, f)

pub bits_end : (b : KeyBits) {l : List Port} → l ≡ [] → key_bits b l ≡ b
unfolding key_bits
bits_end b s = rw s
