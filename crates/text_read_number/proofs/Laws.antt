-- Bytes and digits, place by place. Assumes nothing.
use Rattle.std.specs.Prelude.{Option, None}
use Prim.Native.Nat.{ℕ, suc, ◌+◌, ◌-◌, ◌*◌, ◌^◌, ◌≤◌, ◌<◌}
use mathlib.Core.Path.{◌≡◌, refl, sym, ap, ◌∙◌}
use mathlib.Core.Bool.{Bool, true, false, ◌||◌, or-true, true≢false}
use mathlib.Core.List.{List, [], ◌∷◌}
use Rattle.std.proofs.Common.{◌⊎◌, inl, inr}
use native.Mathlib.Numerals.{add-one}
use native.Mathlib.Omega.{arith}
use lib.Dec.{eqb, ltb, leb}
use lib.ListN.{length, get_or, drop, drop_of_length-le}
use lib.Seq.{drop-cons}
use borrow.Author.Tests.{leb-true, leb-false, lt-ltb, le-ltb, ne_eqb}
use Rattle.rules_basics.specs.Basics.{pick, last}
use Rattle.rules_basics.specs.Tests.{by_test}
use Rattle.text_form.specs.Forms.{Read, found, torn, and_then}
use Rattle.text_form.specs.Words.{no_digit, with, value_from, number_of}
use Rattle.text_form.specs.Numbers.{up_to, or_torn, read_number}
use Rattle.text_read_number.specs.Reads.{Reads, read_at}
use Rattle.text_read_number.specs.Numbers.{stop_at, value_to}

-- A byte that is no digit is below all of them or above.
pub outside : (b : ℕ) → (b < 48) ⊎ (57 < b) → no_digit b ≡ true
outside b (inl l) = rw (lt-ltb b 48 l)
outside b (inr l) = rw (lt-ltb 57 b l, or-true)

-- One digit more, or none.
none_read : (r : Read (List ℕ)) → torn ≡ and_then r (λ w s. or_torn None s)
none_read (found w s) = refl
none_read torn = refl

value_step : (stop n b : ℕ) (s : List ℕ) → value_to stop n (b ∷ s)
    ≡ pick (eqb b stop) (found n s) (pick (no_digit b || ltb last (with n b)) torn (value_to stop (with n b) s))
unfolding value_to up_to value_from
value_step stop n b s =
    by_test (eqb b stop)
    (λ y. rw y)
    (λ e. rw e (put (up_to stop s) ∙ by_test (no_digit b || ltb last (with n b)) (λ y. rw y (sym (none_read (up_to stop s)))) (λ e. rw e)))
  where
    put : (x : Read (List ℕ)) → and_then (and_then x (λ w r. found (b ∷ w) r)) (λ w r. or_torn (value_from n w) r)
        ≡ and_then x (λ w r. or_torn (value_from n (b ∷ w)) r)
    put (found w r) = refl
    put torn = refl

-- From place i on, n read so far.
module _ (stop : ℕ) (t : List ℕ) (i n : ℕ) where
  pub value_end : length t ≤ i → value_to stop n (drop i t) ≡ torn
  unfolding value_to up_to
  value_end h = rw (drop_of_length-le t h)

  step : i < length t → value_to stop n (drop i t) ≡ pick (eqb (get_or t i 0) stop) (found n (drop (i + 1) t))
      (pick (no_digit (get_or t i 0) || ltb last (with n (get_or t i 0))) torn (value_to stop (with n (get_or t i 0)) (drop (i + 1) t)))
  step h = rw (drop-cons t i 0 h, add-one i) (value_step stop n (get_or t i 0) (drop (suc i) t))

  -- No digit: the byte ends the number, or there is none.
  pub value_stops : i < length t → no_digit (get_or t i 0) ≡ true → value_to stop n (drop i t) ≡ stop_at stop n (drop i t)
  value_stops h e = step h ∙ rw (e, drop-cons t i 0 h, add-one i)

  -- A digit does not end a number.
  module _ (h : i < length t) (low : 48 ≤ get_or t i 0) (high : get_or t i 0 ≤ 57) (ends : no_digit stop ≡ true) where
    other : eqb (get_or t i 0) stop ≡ false
    other = ne_eqb (get_or t i 0) stop (λ e. true≢false (sym ends ∙ ap no_digit (sym e) ∙ rw (le-ltb (get_or t i 0) 48 low, le-ltb 57 (get_or t i 0) high)))

    pub value_over : last < with n (get_or t i 0) → value_to stop n (drop i t) ≡ torn
    value_over l = step h ∙ rw (other, lt-ltb last (with n (get_or t i 0)) l, or-true)

    pub value_next : with n (get_or t i 0) ≤ last → value_to stop n (drop i t) ≡ value_to stop (with n (get_or t i 0)) (drop (i + 1) t)
    value_next l = step h ∙ rw (other, le-ltb (get_or t i 0) 48 low, le-ltb 57 (get_or t i 0) high, le-ltb last (with n (get_or t i 0)) l)

-- Whether it is past 2^64 − 1, by the answer.
pub past : (n d : ℕ) {b : Bool} → b ≡ leb (2 ^ 64) (n * 10 + d) → b ≡ true → 2 ^ 64 ≤ n * 10 + d
past n d e y = leb-true (2 ^ 64) (n * 10 + d) (sym e ∙ y)

pub not_past : (n d : ℕ) {b : Bool} → b ≡ leb (2 ^ 64) (n * 10 + d) → b ≡ false → n * 10 + d < 2 ^ 64
not_past n d e f = leb-false (2 ^ 64) (n * 10 + d) (sym e ∙ f)

-- The first byte of a number.
number_step : (stop b : ℕ) (s : List ℕ) → read_number stop (b ∷ s) ≡ pick (eqb b stop) torn (and_then (up_to stop s) (λ w r. or_torn (number_of (b ∷ w)) r))
unfolding read_number up_to number_of
number_step stop b s = by_test (eqb b stop) (λ y. rw y) (λ n. rw n (put (up_to stop s)))
  where
    put : (x : Read (List ℕ)) → and_then (and_then x (λ w r. found (b ∷ w) r)) (λ w r. or_torn (number_of w) r)
        ≡ and_then x (λ w r. or_torn (number_of (b ∷ w)) r)
    put (found w r) = refl
    put torn = refl

pub number_none : (stop : ℕ) → read_number stop [] ≡ torn
unfolding read_number up_to
number_none stop = refl

-- No word that begins so is a number.
no_number : (b : ℕ) → no_digit b ≡ true → (w : List ℕ) → number_of (b ∷ w) ≡ None
unfolding number_of value_from
no_number b e [] = rw e
no_number b e (c ∷ w) = by_test (eqb b 48) (λ y. rw y) (λ n. rw (n, e))

-- A word that begins with another digit than 0.
a_number : (b : ℕ) → 48 ≤ b → b ≤ 57 → (b ≡ 48 → ⊥) → (w : List ℕ) → number_of (b ∷ w) ≡ value_from (with 0 b) w
unfolding number_of value_from
a_number b low high n [] = rw (le-ltb b 48 low, le-ltb 57 b high, le-ltb last (with 0 b) (omega arith))
a_number b low high n (c ∷ w) = rw (ne_eqb b 48 n, le-ltb b 48 low, le-ltb 57 b high, le-ltb last (with 0 b) (omega arith))

-- 0, and nothing behind it.
zero_alone : (stop : ℕ) (s : List ℕ) → and_then (up_to stop s) (λ w r. or_torn (number_of (48 ∷ w)) r) ≡ stop_at stop 0 s
unfolding up_to number_of value_from
zero_alone stop [] = refl
zero_alone stop (c ∷ s) = by_test (eqb c stop) (λ y. rw y) (λ n. rw n (go (up_to stop s)))
  where
    go : (x : Read (List ℕ)) → and_then (and_then x (λ w r. found (c ∷ w) r)) (λ w r. or_torn (number_of (48 ∷ w)) r) ≡ torn
    go (found w r) = refl
    go torn = refl

-- The reading of a number from place i on.
module _ (stop : ℕ) (t : List ℕ) (i : ℕ) (h : i < length t) where
  first : read_number stop (drop i t) ≡ pick (eqb (get_or t i 0) stop) torn (and_then (up_to stop (drop (i + 1) t)) (λ w r. or_torn (number_of (get_or t i 0 ∷ w)) r))
  first = rw (drop-cons t i 0 h, add-one i) (number_step stop (get_or t i 0) (drop (suc i) t))

  pub number_not : no_digit (get_or t i 0) ≡ true → read_number stop (drop i t) ≡ torn
  number_not e = first ∙ by_test (eqb (get_or t i 0) stop) (λ y. rw y) (λ n. rw n (go (up_to stop (drop (i + 1) t))))
    where
      go : (x : Read (List ℕ)) → and_then x (λ w r. or_torn (number_of (get_or t i 0 ∷ w)) r) ≡ torn
      go (found w r) = rw (no_number (get_or t i 0) e w)
      go torn = refl

  module _ (low : 48 ≤ get_or t i 0) (high : get_or t i 0 ≤ 57) (ends : no_digit stop ≡ true) where
    pub number_zero : get_or t i 0 ≡ 48 → read_number stop (drop i t) ≡ stop_at stop 0 (drop (i + 1) t)
    number_zero e = first ∙ rw (other stop t i 0 h low high ends, e) (zero_alone stop (drop (i + 1) t))

    pub number_digit : (get_or t i 0 ≡ 48 → ⊥) → read_number stop (drop i t) ≡ value_to stop (get_or t i 0 - 48) (drop (i + 1) t)
    unfolding value_to
    number_digit n = first ∙ rw (other stop t i 0 h low high ends) (go (up_to stop (drop (i + 1) t)))
      where
        go : (x : Read (List ℕ)) → and_then x (λ w r. or_torn (number_of (get_or t i 0 ∷ w)) r) ≡ and_then x (λ w r. or_torn (value_from (get_or t i 0 - 48) w) r)
        go (found w r) =
            let e : with 0 (get_or t i 0) ≡ get_or t i 0 - 48 = omega arith in
            rw (a_number (get_or t i 0) low high n w, e)
        go torn = refl

-- The same answer, said of another place.
pub number_from : (f g : List ℕ → Read ℕ) (t : List ℕ) (p q : ℕ) {r : Option (ℕ × ℕ)} → Reads f t p r
    → p ≤ length t → q ≤ length t → g (drop q t) ≡ f (drop p t) → Reads g t q r
number_from f g t p q x h k i = record { said = x.said ∙ read_at f t p h ∙ sym i ∙ sym (read_at g t q k); fits = x.fits }
