-- The search by halving, turn by turn: what is left, and how many keys are compared.
use Rattle.std.specs.Prelude.{ℕ, zero, suc, ◌+◌, ◌-◌, ◌/◌, ◌^◌, ◌≤◌, ◌<◌, ◌≡◌, refl, false, List, leb, ltb, length, get_or}
use Rattle.std.proofs.Common.{pow-suc, arith, sym, length-take, length-drop, ltb-true, ltb-false, lt-ltb, le-ltb}
use Rattle.rules_types.specs.declared.Port.{Port}
use Rattle.rules.specs.Holds.{port}
use Rattle.rules.specs.Ports.{pairs, bad_realms}
use Rattle.rules_laws.specs.Laws.Tests.{by_test}
use Rattle.ports.specs.Places.{length_pairs}
use Rattle.ports_realms.specs.Rows.{good_realms}
use Rattle.ports_realms.specs.Halving.{nearer, Search, turned, gone_on, ended, begun, halved, comparisons}

-- a comparison leaves all rows but a half of them
pub nearer_length : (k : ℕ) (rows : List Port) → length (nearer k rows) ≡ length rows - length rows / 2
nearer_length k rows =
    let half = length rows / 2 in
    by_test (leb (get_or rows half (port 0 0)).key k)
    (λ t. rw t (simp (length-take, length-drop) (omega arith)))
    (λ f. rw f (simp (length-take, length-drop) (omega arith)))

-- more turns than rows change nothing
enough : (n m k : ℕ) (s : Search) → length s.rows ≤ n → length s.rows ≤ m → gone_on n k s ≡ gone_on m k s
unfolding gone_on
enough zero zero k s h j = refl
enough zero (suc m) k s h j = sym (rw (le-ltb 1 (length s.rows) (omega arith)))
enough (suc n) zero k s h j = rw (le-ltb 1 (length s.rows) (omega arith))
enough (suc n) (suc m) k s h j =
    let less = nearer_length k s.rows in
    by_test (ltb 1 (length s.rows))
    (λ t. let l = ltb-true 1 (length s.rows) t in rw t (enough n m k (turned k s) (omega arith) (omega arith)))
    (λ f. rw f)

next_in : (n k : ℕ) (s : Search) → length s.rows ≤ n → 1 < length s.rows → gone_on n k s ≡ ended k (turned k s)
unfolding gone_on ended
next_in zero k s h l = absurd (omega arith)
next_in (suc n) k s h l =
    let less = nearer_length k s.rows in
    rw (lt-ltb 1 (length s.rows) l) (enough n (length (nearer k s.rows)) k (turned k s) (omega arith) (omega arith))

end_in : (n k : ℕ) (s : Search) → length s.rows ≤ 1 → gone_on n k s ≡ s
unfolding gone_on
end_in zero k s h = refl
end_in (suc n) k s h = rw (le-ltb 1 (length s.rows) h)

module _ (k : ℕ) (s : Search) where
  pub ended_next : 1 < length s.rows → ended k s ≡ ended k (turned k s)
  unfolding ended
  ended_next l = next_in (length s.rows) k s (omega arith) l

  pub ended_end : length s.rows ≤ 1 → ended k s ≡ s
  unfolding ended
  ended_end h = end_in (length s.rows) k s h

-- Twice the rows are one comparison more: at most n + 1 for 2^n rows.
most : (n k : ℕ) (s : Search) → length s.rows ≤ 2 ^ n → (ended k s).compared + length (ended k s).rows ≤ s.compared + (n + 1)
most zero k s h = rw (ended_end k s (omega arith)) (omega arith)
most (suc n) k s h = by_test (ltb 1 (length s.rows))
    (λ t. let l = ltb-true 1 (length s.rows) t in
    let less = nearer_length k s.rows in
    let r = most n k (turned k s) (omega (arith, pow-suc 2 n)) in
    rw (ended_next k s l) (omega arith))
    (λ f. let l = ltb-false 1 (length s.rows) f in rw (ended_end k s l) (omega arith))

pub comparisons_most : (n k : ℕ) (rows : List Port) → length rows ≤ 2 ^ n → comparisons k rows ≤ n + 1
unfolding comparisons halved
comparisons_most n k rows h = omega (arith, most n k (begun rows) h)

-- In a list that passes row 4, at most 5.
pub five_comparisons : (l : List ℕ) (k : ℕ) → bad_realms l ≡ false → comparisons k (pairs l) ≤ 5
five_comparisons l k good = comparisons_most 4 k (pairs l) (omega (arith, (good_realms l good).1, length_pairs l))
