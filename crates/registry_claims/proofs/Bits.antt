-- A bit that is there stays, and a key's own comes.
use Prim.Native.Nat.{ℕ, ◌/◌, ◌%◌, ◌<◌}
use native.Mathlib.Omega.{arith}
use mathlib.Core.Path.{◌≡◌, sym, ap, ◌∙◌}
use mathlib.Core.Bool.{true}
use mathlib.Core.List.{List}
use lib.Dec.{eqb}
use lib.ListN.{length, length-set}
use lib.Seq.{get_or-set_same, get_or-set_other}
use borrow.Author.Tests.{eqb-true, eqb-false}
use Rattle.rules_laws.specs.Laws.Tests.{by_test}
use Rattle.memory.specs.Layout.{word}
use Rattle.ports_bits.specs.Bits.{has_bit, bit_stays, bit_comes}
use Rattle.registry_claims.specs.Seen.{key_words, remainders, seen, see}

module _ (keys : List ℕ) (size : length keys ≡ key_words) (k : ℕ) where
  at : ℕ
  at = k % remainders / 64

  pub see_size : length (see keys k) ≡ key_words
  see_size = simp length-set size

  inside : at < length keys
  unfolding at
  inside = omega arith

  pub seen_comes : seen (see keys k) k ≡ true
  unfolding at
  seen_comes =
      ap (λ w. has_bit w (k % remainders)) (get_or-set_same keys at _ 0 inside) ∙ bit_comes (word keys at) (k % remainders)

  pub seen_stays : (j : ℕ) → seen keys j ≡ true → seen (see keys k) j ≡ true
  unfolding at
  seen_stays j e = by_test (eqb (j % remainders / 64) at)
      (λ y. let s : j % remainders / 64 ≡ at = eqb-true _ _ y in
      ap (λ i. has_bit (word (see keys k) i) (j % remainders)) s
      ∙ ap (λ w. has_bit w (j % remainders)) (get_or-set_same keys at _ 0 inside)
      ∙ bit_stays (word keys at) (k % remainders) (j % remainders) (ap (λ i. has_bit (word keys i) (j % remainders)) (sym s) ∙ e))
      (λ n. ap (λ w. has_bit w (j % remainders)) (get_or-set_other keys at (j % remainders / 64) _ 0 (eqb-false _ _ n)) ∙ e)
