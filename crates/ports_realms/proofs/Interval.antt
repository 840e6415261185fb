-- A search by halving, on its way: the rows that are left stand next to each other in the lent list.
use Prim.Native.Nat.{ℕ, zero, suc, ◌+◌, ◌-◌, ◌*◌, ◌/◌, ◌≤◌, ◌<◌}
use native.Mathlib.Omega.{arith}
use mathlib.Core.Path.{◌≡◌, refl, sym, ap, ◌∙◌}
use mathlib.Core.List.{List, [], ◌∷◌}
use mathlib.Core.Logic.{◌⊎◌, inl, inr}
use lib.ListN.{length, get_or, take, drop, length-take, length-drop}
use lib.Seq.{take_all, take-nil, take-take, drop-drop, get_or-take, get_or-drop}
use borrow.Author.Tests.{le-leb, lt-leb, eq-eqb, ne_eqb}
use Rattle.rules_types.specs.declared.Port.{Port}
use Rattle.rules.specs.Holds.{port}
use Rattle.rules.specs.Ports.{pairs, resolve_in}
use Rattle.ports.specs.Places.{length_pairs, pairs_get, pairs_drop, pairs_at}
use Rattle.ports_realms.specs.Halving.{nearer, Search, ended, begun, halved, comparisons}
use Rattle.ports_realms.specs.Answers.{searched}
use Rattle.ports_realms.proofs.Turns.{ended_next, ended_end}

drop_take : (n m : ℕ) (ps : List Port) → n ≤ m → drop n (take m ps) ≡ take (m - n) (drop n ps)
drop_take zero m ps h = let e : m - 0 ≡ m = omega arith in rw e
drop_take (suc n) zero ps h = absurd (omega arith)
drop_take (suc n) (suc m) [] h = rw (take-nil (suc m - suc n))
drop_take (suc n) (suc m) (p ∷ ps) h = let e : suc m - suc n ≡ m - n = omega arith in rw e (drop_take n m ps (omega arith))

-- so many rows from a place of the lent list on
abbrev pub interval : List ℕ → ℕ → ℕ → List Port
interval l at rows = take rows (pairs (drop at l))

-- So many rows are left from a place on, after so many comparisons: from here the search ends as it would from the start.
pub record Searching (l : List ℕ) (k at rows count : ℕ) : Type 0 where
  pub within : at + rows * 2 ≤ length l
  pub few : count + rows ≤ length l / 2
  pub same : ended k (begun (pairs l)) ≡ ended k (record { rows = interval l at rows; compared = count })

pub starts : (l : List ℕ) (k : ℕ) → Searching l k 0 (length l / 2) 0
starts l k = record {
  within = omega arith;
  few = omega arith;
  same = ap (λ ps. ended k (begun ps)) (sym (take_all (length l / 2) (pairs l) (omega (arith, length_pairs l))));
}

module _ {l : List ℕ} {k at rows count : ℕ} (s : Searching l k at rows count) where
  interval_length : length (interval l at rows) ≡ rows
  interval_length = simp (length-take, length_pairs, length-drop) (omega (arith, s.within))

  -- a comparison with the middle row, by its two ways
  module _ (half : ℕ) (e : half ≡ rows / 2) (more : 0 < half) where
    middle : (get_or (interval l at rows) (rows / 2) (port 0 0)).key ≡ get_or l (at + half * 2) 0
    middle =
        ap
        (λ (p : Port). p.key)
        (get_or-take rows (pairs (drop at l)) (rows / 2) (port 0 0) (omega arith)
        ∙ pairs_get (drop at l) (rows / 2) (simp length-drop (omega (arith, s.within))))
        ∙ get_or-drop at l (rows / 2 * 2) 0
        ∙ ap (λ n. get_or l (at + n * 2) 0) (sym e)

    fewer : {at' : ℕ} → at' + (rows - half) * 2 ≤ length l → nearer k (interval l at rows) ≡ interval l at' (rows - half)
        → Searching l k at' (rows - half) (count + 1)
    fewer w i =
        let more_rows : 1 < length (interval l at rows) = omega (arith, interval_length) in
        let now : Search = record { rows = interval l at rows; compared = count } in
        record {
          within = w;
          few = omega (arith, s.few);
          same = s.same ∙ ended_next k now more_rows ∙ ap (λ ps. ended k (record { rows = ps; compared = count + 1 })) i;
        }

    up : get_or l (at + half * 2) 0 ≤ k → Searching l k (at + half * 2) (rows - half) (count + 1)
    up h =
        fewer
        (omega (arith, s.within))
        (rw (interval_length, rw (sym middle) at (le-leb _ _ h), sym e)
        (drop_take half rows (pairs (drop at l)) (omega arith) ∙ ap (take (rows - half)) (pairs_drop half (drop at l) ∙ ap pairs (drop-drop (half * 2) at l))))

    down : k < get_or l (at + half * 2) 0 → Searching l k at (rows - half) (count + 1)
    down h =
        fewer
        (omega (arith, s.within))
        (rw (interval_length, rw (sym middle) at (lt-leb _ _ h), sym e) (take-take (rows - half) rows (pairs (drop at l)) (omega arith)))

    pub goes_on_lem : {at' : ℕ}
        → ((get_or l (at + half * 2) 0 ≤ k) × (at' ≡ at + half * 2)) ⊎ ((k < get_or l (at + half * 2) 0) × (at' ≡ at))
        → Searching l k at' (rows - half) (count + 1)
    goes_on_lem (inl (h, i)) = rw i (up h)
    goes_on_lem (inr (h, i)) = rw i (down h)

  -- the end: no row is left, or one
  ends : (other n : ℕ) (ps : List Port) → rows ≡ n → n ≤ 1 → length ps ≡ n → interval l at rows ≡ ps
      → searched other (pairs l) k ≡ record { port = resolve_in other ps k; comparisons = count + n }
  unfolding halved comparisons
  ends other n ps e h z i =
      let one : length (interval l at rows) ≤ 1 = omega (arith, interval_length) in
      let end = s.same ∙ ended_end k (record { rows = interval l at rows; compared = count }) one ∙ ap (λ x. record { rows = x; compared = count }) i in
      ap (λ (x : Search). record { port = resolve_in other x.rows k; comparisons = x.compared + length x.rows }) end
      ∙ ap (λ m. record { port = resolve_in other ps k; comparisons = count + m }) z

  pub ends_empty : (other : ℕ) → rows ≡ 0 → searched other (pairs l) k ≡ record { port = port k other; comparisons = count }
  ends_empty other e =
      let z : count + 0 ≡ count = omega arith in
      ends other 0 [] e (omega arith) refl (rw e) ∙ ap (λ n. record { port = port k other; comparisons = n }) z

  module _ (other : ℕ) (e : rows ≡ 1) where
    row : Port
    row = port (get_or l at 0) (get_or l (at + 1) 0)

    one_row : interval l at rows ≡ row ∷ []
    unfolding row
    one_row = rw (e, pairs_at l at (omega (arith, s.within)))

    pub ends_other : (get_or l at 0 ≡ k → ⊥) → searched other (pairs l) k ≡ record { port = port k other; comparisons = count + 1 }
    unfolding row
    ends_other n = ends other 1 (row ∷ []) e (omega arith) refl one_row ∙ rw (ne_eqb (get_or l at 0) k n)

    pub ends_found : get_or l at 0 ≡ k → searched other (pairs l) k ≡ record { port = port k (get_or l (at + 1) 0); comparisons = count + 1 }
    unfolding row
    ends_found h = ends other 1 (row ∷ []) e (omega arith) refl one_row ∙ rw (eq-eqb (get_or l at 0) k h, h)
