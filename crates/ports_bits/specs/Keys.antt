-- A word with a bit for each port's key: what is among the ports has its bit.
use Rattle.std.specs.Prelude.{ℕ, ◌+◌, ◌-◌, ◌*◌, ◌≤◌, ◌≡◌, true, false, List, [], ◌∷◌, ◌++◌, length, drop}
use Rattle.std.proofs.Common.{sym, ap, ◌∙◌, eqb-true}
use Rattle.std.proofs.Math.Bool.{or-false}
use Rattle.rules.specs.Holds.{is_in, same_port}
use Rattle.rules.specs.Ports.{pairs}
use Rattle.rules_types.specs.declared.Port.{Port}
use Rattle.rules_laws.specs.Laws.Tests.{by_test, both}
use Rattle.rules_laws.specs.Laws.Members.{in_behind}
use Rattle.rules_laws.specs.Laws.Pairs.{pairs_end}
use Rattle.ports_bits.specs.Bits.{with_bit, has_bit, bit_stays, bit_comes}

-- a word with the bits of the ports' keys
unfoldable pub key_word : ℕ → List Port → ℕ
key_word w [] = w
key_word w (q ∷ qs) = with_bit (key_word w qs) q.key

pub key_stays : (w : ℕ) (qs : List Port) (k : ℕ) → has_bit w k ≡ true → has_bit (key_word w qs) k ≡ true
unfolding key_word
key_stays w [] k e = e
key_stays w (q ∷ qs) k e = bit_stays (key_word w qs) q.key k (key_stays w qs k e)

pub same_key : (w : ℕ) (p q : Port) → same_port q p ≡ true → has_bit (with_bit w p.key) q.key ≡ true
same_key w p q t = let k : q.key ≡ p.key = eqb-true _ _ (both _ _ t).0 in rw k (bit_comes w p.key)

pub key_comes : (w : ℕ) (qs : List Port) (q : Port) → is_in q qs ≡ true → has_bit (key_word w qs) q.key ≡ true
unfolding key_word
key_comes w [] q e = cc
key_comes w (p ∷ qs) q e = by_test (same_port q p)
    (same_key (key_word w qs) p q)
    (λ f. bit_stays (key_word w qs) p.key q.key (key_comes w qs q (rw f at e)))

-- the word has the bit of each port's key
pub record Covers (w : ℕ) (qs : List Port) : Type 0 where
  pub has : (q : Port) → is_in q qs ≡ true → has_bit w q.key ≡ true

pub covers_word : (w : ℕ) (qs : List Port) → Covers (key_word w qs) qs
covers_word w qs = record { has = key_comes w qs }

-- a port more behind the others, with its bit
pub covers_more : {w : ℕ} {qs : List Port} → Covers w qs → (p : Port) → Covers (with_bit w p.key) (qs ++ p ∷ [])
covers_more {w} {qs} s p = record {
  has = λ q e. by_test (same_port q p)
      (same_key w p q)
      (λ f. bit_stays w p.key q.key (s.has q (sym (or-false _) ∙ (rw f at (sym (in_behind q p qs) ∙ e)))));
}

-- a port whose key lacks its bit is none of them
pub lacks_not_in : {w : ℕ} {qs : List Port} → Covers w qs → (q : Port) → has_bit w q.key ≡ false → is_in q qs ≡ false
lacks_not_in {w} {qs} s q f = by_test (is_in q qs) (λ t. let i = s.has q t in cc) (λ n. n)

-- the word of the rows from one on, made from the last row to the first
module _ (w : ℕ) (l : List ℕ) where
  abbrev pub WordFrom : ℕ → ℕ → Type 0
  WordFrom row bits = bits ≡ key_word w (pairs (drop (row * 2) l))

  pub word_none : (row : ℕ) → length l ≤ row * 2 + 1 → WordFrom row w
  unfolding key_word
  word_none row h = rw (pairs_end l (row * 2) h)

  pub word_next : (row bits : ℕ) {q : Port} → pairs (drop ((row - 1) * 2) l) ≡ q ∷ pairs (drop (row * 2) l) → WordFrom row bits
      → WordFrom (row - 1) (with_bit bits q.key)
  unfolding key_word
  word_next row bits {q} s e = rw s (ap (λ x. with_bit x q.key) e)
