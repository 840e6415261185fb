-- One place more in a word of places.
use Rattle.std.specs.Prelude.{ℕ, ◌^◌, ◌<◌, ◌≡◌, ◌||◌, eqb}
use Rattle.std.proofs.Common.{arith, ap, ◌∙◌, eqb-true, eq-eqb}
use Rattle.std.proofs.Math.Bool.{or-true, or-false}
use Rattle.std.specs.Int.Bits.{bit_or}
use Rattle.std.proofs.lemmas.Bool.{eqb-false}
use Rattle.rules_laws.specs.Laws.Tests.{by_test}
use Rattle.memory_places.specs.Bits.{bit, one_there, one_other}
use Rattle.memory_providers.specs.Words.{is_among}
use Rattle.ports_bits.specs.Bits.{bit_or_lem}

pub among_or : (w i j : ℕ) → is_among (bit_or w (2 ^ i)) j ≡ (is_among w j || eqb j i)
among_or w i j = by_test (eqb j i)
    (λ y. let e = eqb-true j i y in
    rw (y, or-true (is_among w j)) (eq-eqb _ 1 (bit_or_lem w (2 ^ i) j ∙ omega (arith, ap (bit (2 ^ i)) e, one_there i, bit_small w j))))
    (λ n. let o = one_other i j (eqb-false j i n) in
    let k : bit (bit_or w (2 ^ i)) j ≡ bit w j = omega (arith, bit_or_lem w (2 ^ i) j) in
    rw (n, or-false (is_among w j)) (ap (λ x. eqb x 1) k))
  where
    bit_small : (w j : ℕ) → bit w j < 2
    bit_small w j = omega arith
