-- The search for a place, one place on.
use Rattle.std.specs.Prelude.{Some, None}
use Prim.Native.Nat.{ℕ, suc, ◌+◌, ◌-◌, ◌<◌, ◌≤◌}
use mathlib.Core.Path.{◌≡◌, refl, sym, ◌∙◌}
use mathlib.Core.Bool.{Bool, true, false, ◌&&◌, and-false}
use mathlib.Core.List.{List}
use native.Mathlib.Omega.{arith}
use lib.Dec.{ltb}
use borrow.Author.Tests.{eq-eqb, ne_eqb, ltb-true}
use Rattle.rules_laws.specs.Laws.Tests.{both}
use Rattle.memory.specs.Layout.{taken, id_at, places}
use Rattle.memory.specs.Writes.{names_at, find_from, find_at, SameId}

-- A place names the id where it is taken and the id is its own, whichever is asked first.
and-true : (b : Bool) → (b && true) ≡ b
and-true true = refl
and-true false = refl

pub names_taken : (m : List ℕ) (id i : ℕ) (b : Bool) → id_at m i ≡ id → b ≡ taken m i → b ≡ names_at m id i
unfolding names_at
names_taken m id i b e t = rw (eq-eqb _ _ e) (t ∙ sym (and-true (taken m i)))

pub names_other : (m : List ℕ) (id i : ℕ) → (id_at m i ≡ id → ⊥) → false ≡ names_at m id i
unfolding names_at
names_other m id i n = rw (ne_eqb _ _ n) (sym (and-false (taken m i)))

pub names_free : (m : List ℕ) (id i : ℕ) → taken m i ≡ false → names_at m id i ≡ false
unfolding names_at
names_free m id i f = rw f

one_less : (i : ℕ) → i < places → places - i ≡ suc (places - (i + 1))
one_less i h = omega arith

none_left : (i : ℕ) → places ≤ i → places - i ≡ 0
none_left i h = omega arith

module _ (m : List ℕ) (id i : ℕ) where
  pub find_here : i < places → names_at m id i ≡ true → find_from (places - i) m id i ≡ Some i
  unfolding find_from
  find_here h e = rw (one_less i h) (rw e)

  pub find_next : i < places → names_at m id i ≡ false → find_from (places - i) m id i ≡ find_from (places - (i + 1)) m id (i + 1)
  unfolding find_from
  find_next h e = rw (one_less i h) (rw e)

  pub find_end : places ≤ i → find_from (places - i) m id i ≡ None
  unfolding find_from
  find_end h = rw (none_left i h)

  -- a place that has the id, as the first
  module _ (s : SameId m id i) where
    pub same_taken : taken m i ≡ true → Some i ≡ find_at m id
    unfolding taken
    same_taken t =
        let h : i < places = ltb-true i places (both (ltb i places) _ t).0 in
        sym (s.1 ∙ find_here h (sym (names_taken m id i true (s.2 h) (sym t))))

    pub same_free : taken m i ≡ false → i < places → find_from (places - (i + 1)) m id (i + 1) ≡ find_at m id
    same_free f h = sym (s.1 ∙ find_next h (names_free m id i f))

    pub same_none : places ≤ i → None ≡ find_at m id
    same_none h = sym (s.1 ∙ find_end h)
