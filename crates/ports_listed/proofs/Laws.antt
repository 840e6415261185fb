-- Pairs in a list of numbers, the answers of a listing, and a tail written in its place. Assumes nothing.
use mathlib.Core.Path.{◌≡◌, ap, ◌∙◌}
use mathlib.Core.Bool.{or-true}
use mathlib.Core.List.{List, [], ◌∷◌, ◌++◌, append-nil, append_assoc}
use Prim.Native.Nat.{ℕ, ◌+◌, ◌-◌, ◌*◌, ◌/◌, ◌≤◌, ◌<◌}
use native.Mathlib.Nat.{zero-add}
use native.Mathlib.Numerals.{add-one}
use native.Mathlib.Omega.{arith}
use lib.ListN.{length, get_or, take, drop, set, length-drop, drop_of_length-le}
use lib.Seq.{paste-suc, take_all, drop-drop}
use borrow.Author.Tests.{lt-ltb, le-ltb}
use borrow.Rule.Slice.PartMut.{mid_of, put_mid}
use Rattle.rules_types.specs.declared.Port.{Port}
use Rattle.rules.specs.Refusals.{ShortBuffer}
use Rattle.rules.specs.Outcomes.{refuses, writes, checked, written}
use Rattle.rules.specs.Ports.{pairs, flat}
use Rattle.rules.specs.Lists.{listing}
use Rattle.rules_laws.specs.Laws.Pairs.{length_pairs, length_flat, flat_pairs}

pub numbers : (l : List ℕ) → length (flat (pairs l)) ≡ length l / 2 * 2
numbers l = omega (arith, length_flat (pairs l), length_pairs l)

-- A turn of the pair writer's loop, and its end.
turn : (l d : List ℕ) (i : ℕ) → i < length d → i < length l → set (take i l ++ drop i d) i (get_or l i 0) ≡ take (i + 1) l ++ drop (i + 1) d
turn l d i hd hl = rw add-one (simp zero-add at (paste-suc d 0 l i 0 (omega arith) hl))

pub two_turns : (l d : List ℕ) (row : ℕ) → row * 2 + 1 < length d → row * 2 + 1 < length l →
    set (set (take (row * 2) l ++ drop (row * 2) d) (row * 2) (get_or l (row * 2) 0)) (row * 2 + 1) (get_or l (row * 2 + 1) 0)
    ≡ take ((row + 1) * 2) l ++ drop ((row + 1) * 2) d
two_turns l d row hd hl =
    let e : row * 2 + 1 + 1 ≡ (row + 1) * 2 = omega arith in
    ap (λ (x : List ℕ). set x (row * 2 + 1) (get_or l (row * 2 + 1) 0)) (turn l d (row * 2) (omega arith) (omega arith))
    ∙ turn l d (row * 2 + 1) hd hl ∙ ap (λ (n : ℕ). take n l ++ drop n d) e

pub all : (l d : List ℕ) (i : ℕ) → i ≡ length l / 2 * 2 → take i l ++ drop i d ≡ flat (pairs l) ++ drop (length (flat (pairs l))) d
all l d i e = rw (numbers, flat_pairs, e)

-- The tail from p on, written by a callee, in its place in the whole.
pub whole : (b l last : List ℕ) (p : ℕ) → p ≤ length b → last ≡ l ++ drop (length l) (mid_of p (length b - p) b) → put_mid p (length b - p) b last ≡ written b p l
whole b l last p h e =
    let long : length (drop p b) ≤ length b - p = simp length-drop (omega arith) in
    ap (λ (t : List ℕ). take p b ++ (last ++ t)) (drop_of_length-le (drop p b) long)
    ∙ rw (append-nil, e, take_all (length b - p) (drop p b) long, drop-drop, append_assoc)

module _ (ps : List Port) (p : ℕ) (b : List ℕ) where
  pub past : length b < p → listing ps p b ≡ refuses ShortBuffer []
  unfolding listing checked
  past h = rw (lt-ltb (length b) p h)

  pub short : length b - p < 2 * length ps → listing ps p b ≡ refuses ShortBuffer []
  unfolding listing checked
  short h = rw (lt-ltb (length b - p) (2 * length ps) h, or-true)

  pub fits : p ≤ length b → 2 * length ps ≤ length b - p → listing ps p b ≡ writes p (flat ps) (length ps ∷ [])
  unfolding listing checked
  fits h k = rw (le-ltb (length b) p h, le-ltb (length b - p) (2 * length ps) k)
