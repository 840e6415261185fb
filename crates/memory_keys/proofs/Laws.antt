-- The steps of a lookup.
use Rattle.std.specs.Prelude.{Option, Some, None}
use Prim.Native.Nat.{ℕ, suc, ◌+◌, ◌-◌, ◌*◌, ◌<◌, ◌≤◌, ◌%◌}
use native.Mathlib.Omega.{arith}
use native.Mathlib.Nat.{mod-eq_of_lt}
use mathlib.Core.Path.{◌≡◌, refl, sym, ap, ◌∙◌}
use mathlib.Core.Bool.{Bool, true, false, ◌||◌, or-false}
use mathlib.Core.List.{List, ◌∷◌}
use lib.ListN.{length, drop, get_or, set}
use lib.Seq.{set-get_or}
use borrow.Author.Tests.{eq-eqb}
use Rattle.rules.specs.Holds.{port, is_in, same_port, provides, provided}
use Rattle.rules.specs.Ports.{pairs}
use Rattle.rules_types.specs.declared.Port.{Port}
use Rattle.ports.specs.Places.{pairs_before, pairs_end, in_hit, in_miss, in_later, not_same}
use Rattle.ports_bits.specs.Bits.{with_bit, has_bit}
use Rattle.ports_bits.specs.Keys.{WordFrom, word_none, word_next}
use Rattle.rules.specs.Basics.{pick}
use Rattle.memory.specs.Layout.{word, taken, prov_part, places}
use Rattle.memory.specs.View.{anchor_at, plugin_at}
use Rattle.memory_lists.specs.Listed.{provided_at}
use Rattle.memory_keys.specs.Tables.{place_keys, bits_without, keys_without, offers_by, kept_by, found_from, table_from}

or_right : (a b : Bool) → b ≡ true → (a || b) ≡ true
or_right true b e = refl
or_right false b e = e

module _ (w : ℕ) (l : List ℕ) (q : Port) where
  -- the rows from one on have been looked at in vain, and their keys are in the word
  pub record Seen (row bits : ℕ) : Type 0 where
    pub within : row * 2 ≤ length l
    pub not_there : is_in q (pairs (drop (row * 2) l)) ≡ false
    pub word : WordFrom w l row bits

  pub seen_none : (row : ℕ) → row * 2 ≤ length l → length l ≤ row * 2 + 1 → Seen row w
  seen_none row h g = record { within = h; not_there = rw (pairs_end l (row * 2) g); word = word_none w l row g }

  pub seen_all : (bits : ℕ) → Seen 0 bits → Some bits ≡ bits_without w (pairs l) q
  seen_all bits s = rw s.not_there (ap Some s.word)

  module _ (row bits : ℕ) (s : Seen row bits) (h : 0 < row) where
    abbrev at : ℕ
    at = (row - 1) * 2

    here : pairs (drop at l) ≡ port (get_or l at 0) (get_or l (at + 1) 0) ∷ pairs (drop (row * 2) l)
    here = pairs_before l row at (at + 1) (omega arith) refl s.within

    pub seen_there : get_or l at 0 ≡ q.key → get_or l (at + 1) 0 ≡ q.realm → None ≡ bits_without w (pairs l) q
    seen_there e f = rw (in_later q (row - 1) l (in_hit here q e f))

    pub seen_next : (get_or l at 0 ≡ q.key → get_or l (at + 1) 0 ≡ q.realm → ⊥) → (b : ℕ) → b ≡ with_bit bits (get_or l at 0) → Seen (row - 1) b
    seen_next n b e = record {
      within = omega (arith, s.within);
      not_there = in_miss here q n ∙ s.not_there;
      word = e ∙ word_next w l row bits here s.word;
    }

-- a place's ports: the anchor, then the provisions
module _ (m : List ℕ) (i : ℕ) (q : Port) (a : Port) (g : a ≡ anchor_at m i) where
  pub keys_anchor : same_port q a ≡ true → None ≡ keys_without m i q
  unfolding plugin_at
  keys_anchor x =
      let s : same_port q (anchor_at m i) ≡ true = ap (same_port q) (sym g) ∙ x in
      rw (or_right (is_in q (provided (plugin_at m i))) (same_port q (anchor_at m i)) s)

  pub keys_rest : same_port q a ≡ false → (ws : List ℕ) → ws ≡ prov_part m i → (w : ℕ) → w ≡ with_bit 0 a.key → (o : Option ℕ)
      → o ≡ bits_without w (pairs ws) q → o ≡ keys_without m i q
  unfolding plugin_at place_keys
  keys_rest n ws e w f o h =
      let s : same_port q (anchor_at m i) ≡ false = ap (same_port q) (sym g) ∙ n in
      let x : provides (plugin_at m i) q ≡ is_in q (pairs (prov_part m i)) =
      ap (λ b. is_in q (provided (plugin_at m i)) || b) s ∙ or-false (is_in q (provided (plugin_at m i))) ∙ ap (is_in q) (provided_at m i) in
      let y : keys_without m i q ≡ bits_without (with_bit 0 (anchor_at m i).key) (pairs (prov_part m i)) q = rw x in
      h ∙ rw (e, f, g) (sym y)

-- a place, by the table's word of it
module _ (m t : List ℕ) (i : ℕ) (q : Port) where
  abbrev Offered : Bool → List ℕ → Type 0
  Offered b u = (b ≡ offers_by m (word t i) i q) × (u ≡ set t i (kept_by m (word t i) i q))

  pub bit_not_there : has_bit (word t i) q.key ≡ false → Offered false t
  bit_not_there f = (rw f, rw f (sym (set-get_or t i 0)))

  module _ (b : has_bit (word t i) q.key ≡ true) where
    pub free_place_lem : taken m i ≡ false → Offered false (set t i 0)
    free_place_lem f = (rw (b, f), rw (b, f))

    module _ (h : i < places) (y : taken m i ≡ true) where
      own : i % places ≡ i
      own = mod-eq_of_lt h

      pub port_there : None ≡ keys_without m (i % places) q → Offered true t
      port_there e =
          let p : provides (plugin_at m i) q ≡ true = found (provides (plugin_at m i) q) (e ∙ ap (λ j. keys_without m j q) own) in
          (rw (b, y, p), rw (b, y, p) (sym (set-get_or t i 0)))
        where
          found : (b : Bool) → None ≡ pick b None (Some (place_keys m i)) → b ≡ true
          found true e = refl
          found false e = cc

      pub port_not_there : (k : ℕ) → Some k ≡ keys_without m (i % places) q → Offered false (set t i k)
      port_not_there k e =
          let r = found (provides (plugin_at m i) q) (e ∙ ap (λ j. keys_without m j q) own) in
          (rw (b, y, r.0), rw (b, y, r.0) (ap (set t i) r.1))
        where
          found : (b : Bool) → Some k ≡ pick b None (Some (place_keys m i)) → (b ≡ false) × (k ≡ place_keys m i)
          found true e = (cc, cc)
          found false e = (refl, cc)

-- the places from one on
module _ (m t : List ℕ) (q : Port) (i : ℕ) where
  abbrev kept : List ℕ
  kept = set t i (kept_by m (word t i) i q)

  -- what is left to do gives what the whole gives
  abbrev pub Left : Option ℕ → List ℕ → Type 0
  Left p u = (p ≡ found_from (places - i) m t q i) × (u ≡ table_from (places - i) m t q i)

  module _ (h : i < places) where
    one_less : places - i ≡ suc (places - (i + 1))
    one_less = omega arith

    pub found_here : offers_by m (word t i) i q ≡ true → Left (Some i) kept
    unfolding found_from table_from
    found_here y = (rw one_less (rw y), rw one_less (rw y))

    pub found_next : offers_by m (word t i) i q ≡ false → (p : Option ℕ) (u : List ℕ) → Left p u
        → (p ≡ found_from (places - (i + 1)) m kept q (i + 1)) × (u ≡ table_from (places - (i + 1)) m kept q (i + 1))
    unfolding found_from table_from
    found_next n p u l = (l.0 ∙ rw one_less (rw n), l.1 ∙ rw one_less (rw n))

  pub found_end : places ≤ i → Left None t
  unfolding found_from table_from
  found_end h = let e : places - i ≡ 0 = omega arith in (rw e, rw e)
