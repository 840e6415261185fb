-- Blocks of rows that are apart and below the end, which is what they come to in all: over any starts and counts of 32 places, and what keeps them so.
use Rattle.std.specs.Prelude.{ℕ, zero, suc, ◌+◌, ◌-◌, ◌<◌, ◌≤◌, ◌≡◌, refl, Bool, true, false, ◌≢◌, eqb, ltb}
use Rattle.std.proofs.Common.{sym, ◌∙◌, ap, arith, ltb-true, ltb-false, eqb-true, le-leb}
use Rattle.std.proofs.lemmas.Bool.{eqb-false, lt-leb}
use Rattle.memory.specs.Layout.{places}
use Rattle.rules.specs.Basics.{pick}
use Rattle.memory_rows.specs.Moves.{lowered}

-- n of f's numbers from i on, in all
unfoldable pub sum : ℕ → (ℕ → ℕ) → ℕ → ℕ
sum zero f i = 0
sum (suc n) f i = f i + sum n f (i + 1)

abbrev pub share : (ℕ → Bool) → (ℕ → ℕ) → ℕ → ℕ
share tk ct i = pick (tk i) (ct i) 0

pub record Tiled (tk : ℕ → Bool) (st ct : ℕ → ℕ) (u : ℕ) : Type 0 where
  pub below : (i : ℕ) → i < places → tk i ≡ true → st i + ct i ≤ u
  pub apart : (i j : ℕ) → i < places → j < places → i ≢ j → tk i ≡ true → tk j ≡ true → st i ≤ st j → st i + ct i ≤ st j
  pub total : u ≡ sum places (share tk ct) 0

-- sums of what differs at one place at most
pub sum_same : (n : ℕ) (f g : ℕ → ℕ) (i : ℕ) → ((j : ℕ) → i ≤ j → j < i + n → f j ≡ g j) → sum n f i ≡ sum n g i
unfolding sum
sum_same zero f g i h = refl
sum_same (suc n) f g i h = omega (arith, h i (omega arith) (omega arith), sum_same n f g (i + 1) (λ j l k. h j (omega arith) (omega arith)))

pub sum_but : (n : ℕ) (f g : ℕ → ℕ) (p i : ℕ) → ((j : ℕ) → j < i + n → j ≢ p → f j ≡ g j) → i ≤ p → p < i + n → sum n f i + g p ≡ sum n g i + f p
unfolding sum
sum_but zero f g p i h l t = absurd (omega arith)
sum_but (suc n) f g p i h l t = cases (eqb i p) refl (sum_but n f g p (i + 1) (λ j k. h j (omega arith)))
  where
    cases : (b : Bool) → eqb i p ≡ b → (i + 1 ≤ p → p < i + 1 + n → sum n f (i + 1) + g p ≡ sum n g (i + 1) + f p)
        → f i + sum n f (i + 1) + g p ≡ g i + sum n g (i + 1) + f p
    cases true e ih =
        let s : i ≡ p = eqb-true i p e in
        let u : sum n f (i + 1) ≡ sum n g (i + 1) = sum_same n f g (i + 1) (λ j k q. h j (omega arith) (omega arith)) in
        omega (arith, ap f s, ap g s)
    cases false e ih =
        let d : i ≢ p = eqb-false i p e in
        omega (arith, h i (omega arith) d, ih (omega arith) (omega arith))

-- a block of c rows at s, seen from a gap of k rows at g: before it, or behind it and then lower by it
pub data Side (s c g k s' : ℕ) : Type 0 where
  before : s + c ≤ g → s' ≡ s → Side s c g k s'
  behind : g + k ≤ s → s' ≡ s - k → Side s c g k s'

module _ (tk tk' : ℕ → Bool) (st st' ct ct' : ℕ → ℕ) (u u' p : ℕ) (old : Tiled tk st ct u) (hp : p < places) (some : (i : ℕ) → 1 ≤ ct i) where
  -- the block of p goes: the gap is closed
  module _ (there : tk p ≡ true) (gone : tk' p ≡ false) (kept : (j : ℕ) → j ≢ p → tk' j ≡ tk j)
      (counts : (j : ℕ) → j < places → ct' j ≡ ct j) (starts : (j : ℕ) → j < places → st' j ≡ lowered (st j) (st p + ct p) (ct p)) (end : u' ≡ u - ct p) where
    -- each other block stands before the gap, or behind it
    pub side : (j : ℕ) → j < places → j ≢ p → tk j ≡ true → Side (st j) (ct j) (st p) (ct p) (st' j)
    side j h d t = cases (ltb (st j) (st p)) refl
      where
        cases : (b : Bool) → ltb (st j) (st p) ≡ b → Side (st j) (ct j) (st p) (ct p) (st' j)
        cases true e =
            let a : st j < st p = ltb-true (st j) (st p) e in
            before (old.apart j p h hp d t there (omega arith)) (starts j h ∙ rw (lt-leb (st p + ct p) (st j) (omega arith)))
        cases false e =
            let a : st p ≤ st j = ltb-false (st j) (st p) e in
            let b : st p + ct p ≤ st j = old.apart p j hp h (λ s. d (sym s)) there t a in
            behind b (starts j h ∙ rw (le-leb (st p + ct p) (st j) b))

    not_p : (j : ℕ) → tk' j ≡ true → j ≢ p
    not_p j t s =
        let a : tk' p ≡ true = sym (ap tk' s) ∙ t in
        let z : ◌≡◌ {A = ℕ} 0 1 = cc in
        omega arith

    was : (j : ℕ) → tk' j ≡ true → tk j ≡ true
    was j t = sym (kept j (not_p j t)) ∙ t

    below_removed : (i : ℕ) → i < places → tk' i ≡ true → st' i + ct' i ≤ u'
    below_removed i h t = go (side i h (not_p i t) (was i t))
      where
        go : Side (st i) (ct i) (st p) (ct p) (st' i) → st' i + ct' i ≤ u'
        go (before a e) = omega (arith, counts i h, old.below p hp there)
        go (behind a e) = omega (arith, counts i h, old.below i h (was i t))

    apart_removed : (i j : ℕ) → i < places → j < places → i ≢ j → tk' i ≡ true → tk' j ≡ true → st' i ≤ st' j → st' i + ct' i ≤ st' j
    apart_removed i j hi hj d ti tj l = go (side i hi (not_p i ti) (was i ti)) (side j hj (not_p j tj) (was j tj))
      where
        old_apart : st i ≤ st j → st i + ct i ≤ st j
        old_apart = old.apart i j hi hj d (was i ti) (was j tj)

        go : Side (st i) (ct i) (st p) (ct p) (st' i) → Side (st j) (ct j) (st p) (ct p) (st' j) → st' i + ct' i ≤ st' j
        go (before a e) (before b f) = omega (arith, counts i hi, old_apart (omega arith))
        go (before a e) (behind b f) = omega (arith, counts i hi)
        go (behind a e) (before b f) = absurd (omega (arith, some j))
        go (behind a e) (behind b f) = omega (arith, counts i hi, old_apart (omega arith))

    total_removed : u' ≡ sum places (share tk' ct') 0
    total_removed =
        let a : share tk' ct' p ≡ 0 = rw gone in
        let b : share tk ct p ≡ ct p = rw there in
        omega (
          arith,
          old.total,
          sum_but places (share tk' ct') (share tk ct) p 0 (λ j h d. rw (kept j d) (ap (λ (x : ℕ). pick (tk j) x 0) (counts j h)))
              (omega arith) (omega arith),
        )

    pub tiled_removed : Tiled tk' st' ct' u'
    tiled_removed = record { below = below_removed; apart = apart_removed; total = total_removed }

  -- a block of p comes, at the end mark
  module _ (free : tk p ≡ false) (comes : tk' p ≡ true) (kept : (j : ℕ) → j ≢ p → tk' j ≡ tk j)
      (counts : (j : ℕ) → j < places → j ≢ p → ct' j ≡ ct j) (starts : (j : ℕ) → j < places → j ≢ p → st' j ≡ st j)
      (start : st' p ≡ u) (end : u' ≡ u + ct' p) where
    -- p's block, or one that was there
    pub data Which (j : ℕ) : Type 0 where
      new : st' j ≡ u → ct' j ≡ ct' p → j ≡ p → Which j
      known : st' j ≡ st j → ct' j ≡ ct j → tk j ≡ true → st j + ct j ≤ u → Which j

    which : (j : ℕ) → j < places → tk' j ≡ true → Which j
    which j h t = cases (eqb j p) refl
      where
        cases : (b : Bool) → eqb j p ≡ b → Which j
        cases true e = let s : j ≡ p = eqb-true j p e in new (ap st' s ∙ start) (ap ct' s) s
        cases false e =
            let d : j ≢ p = eqb-false j p e in
            let w : tk j ≡ true = sym (kept j d) ∙ t in
            known (starts j h d) (counts j h d) w (old.below j h w)

    below_added : (i : ℕ) → i < places → tk' i ≡ true → st' i + ct' i ≤ u'
    below_added i h t = go (which i h t)
      where
        go : Which i → st' i + ct' i ≤ u'
        go (new a b s) = omega arith
        go (known a b w l) = omega arith

    apart_added : (i j : ℕ) → i < places → j < places → i ≢ j → tk' i ≡ true → tk' j ≡ true → st' i ≤ st' j → st' i + ct' i ≤ st' j
    apart_added i j hi hj d ti tj l = go (which i hi ti) (which j hj tj)
      where
        go : Which i → Which j → st' i + ct' i ≤ st' j
        go (new a b s) (new a' b' s') = absurd (d (s ∙ sym s'))
        go (new a b s) (known a' b' w' l') = absurd (omega (arith, some j))
        go (known a b w l₁) (new a' b' s') = omega arith
        go (known a b w l₁) (known a' b' w' l') = omega (arith, old.apart i j hi hj d w w' (omega arith))

    total_added : u' ≡ sum places (share tk' ct') 0
    total_added =
        let a : share tk' ct' p ≡ ct' p = rw comes in
        let b : share tk ct p ≡ 0 = rw free in
        omega (
          arith,
          old.total,
          sum_but places (share tk' ct') (share tk ct) p 0 (λ j h d. rw (kept j d) (ap (λ (x : ℕ). pick (tk j) x 0) (counts j h d)))
              (omega arith) (omega arith),
        )

    pub tiled_added : Tiled tk' st' ct' u'
    tiled_added = record { below = below_added; apart = apart_added; total = total_added }
