-- The row of a list of ports, one port after the other.
use Rattle.std.specs.Prelude.{Option, Some, None}
use Prim.Native.Nat.{ℕ, ◌*◌, ◌%◌, ◌^◌, ◌<◌}
use native.Mathlib.Omega.{arith}
use mathlib.Core.Path.{◌≡◌, refl, sym, ap, ◌∙◌}
use mathlib.Core.Bool.{Bool, true, false, ◌||◌, or-false, or_assoc}
use mathlib.Core.List.{List, [], ◌∷◌}
use lib.Bits.{bit_or, or_lt}
use lib.Dec.{eqb}
use lib.Pow.{pow-lt}
use Rattle.rules.specs.Basics.{all}
use Rattle.rules.specs.Holds.{is_active}
use Rattle.rules.specs.Phases.{available}
use Rattle.rules_types.specs.declared.Port.{Port}
use Rattle.memory.specs.Layout.{places}
use Rattle.memory.specs.View.{life_at, view}
use Rattle.memory.specs.declared.Life.{Life}
use Rattle.memory_index.specs.Among.{among_or}
use Rattle.memory_places.specs.Bits.{bit_none, one_shl}
use Rattle.memory_providers.specs.Providers.{provider_at, provider_view, provider_active, provider_below}
use Rattle.memory_providers.specs.Words.{is_among, word_of}
use Rattle.registry_cycles.specs.Rows.{is_at, provides_one, row_of}
use Rattle.registry_cycles.proofs.Words.{bits_word, word_same}

-- The ports before the rest are served, and their providers are in the row.
pub record Rowed (m : List ℕ) (qs rest : List Port) (row : ℕ) : Type 0 where
  pub small : row < 2 ^ places
  pub bits : (j : ℕ) → (is_among row j || provides_one m rest j) ≡ provides_one m qs j
  pub served : all (available (view m)) qs ≡ all (available (view m)) rest

pub rowed_begin : (m : List ℕ) (qs : List Port) → Rowed m qs qs 0
rowed_begin m qs = record { small = omega arith; bits = λ j. rw (bit_none j); served = refl }

module _ (m : List ℕ) (qs rest : List Port) (row : ℕ) (t : Rowed m qs rest row) where
  pub rowed_end : rest ≡ [] → Some row ≡ row_of m qs
  rowed_end e =
      let s : all (available (view m)) qs ≡ true = t.served ∙ rw e in
      let w : row ≡ word_of (provides_one m qs) places 0 = sym (bits_word row places t.small)
      ∙ word_same (is_among row) (provides_one m qs) places 0 (λ j l. sym (or-false (is_among row j)) ∙ ap (λ l. is_among row j || provides_one m l j) (sym e) ∙ t.bits j) in
      rw s (ap Some w)

  module _ (q : Port) (ps : List Port) (e : rest ≡ q ∷ ps) (x : Option ℕ) (g : x ≡ provider_at m q) where
    pub rowed_none : x ≡ None → None ≡ row_of m qs
    rowed_none n = rw (t.served, e, provider_view m q, sym g ∙ n)

    module _ (i : ℕ) (f : x ≡ Some i) (l : Life) (h : l ≡ life_at m (i % places)) (b : Bool) (k : b ≡ is_active l.phase) where
      is_available_lem : available (view m) q ≡ b
      is_available_lem = rw (provider_view m q, sym g ∙ f) (provider_active m q x g i f l h b k)

      pub rowed_not : b ≡ false → None ≡ row_of m qs
      rowed_not n = rw (t.served, e, is_available_lem ∙ n)

      below : i < places
      below = provider_below m q i (sym g ∙ f)

      pub rowed_next : b ≡ true → (r : ℕ) → r ≡ bit_or row ((1 * 2 ^ i) % 2 ^ 32) → Rowed m qs ps r
      rowed_next y r s =
          let z : r ≡ bit_or row (2 ^ i) = s ∙ ap (bit_or row) (one_shl i below) in
          record {
            small = rw z (or_lt places row (2 ^ i) t.small (pow-lt below));
            bits = λ j.
                ap (λ w. is_among w j || provides_one m ps j) z ∙ ap (λ b. b || provides_one m ps j) (among_or row i j)
                ∙ or_assoc (is_among row j) (eqb j i) (provides_one m ps j)
                ∙ ap (λ p. is_among row j || (is_at p j || provides_one m ps j)) (sym (sym g ∙ f))
                ∙ ap (λ l. is_among row j || provides_one m l j) (sym e) ∙ t.bits j;
            served = t.served ∙ rw (e, is_available_lem ∙ y);
          }
