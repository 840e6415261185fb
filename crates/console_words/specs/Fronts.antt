-- A list at the front of an array.
use Rattle.std.specs.Prelude.{ℕ, ◌≤◌, ◌≡◌, List, length, take, drop}
use Rattle.std.proofs.Common.{arith, length-append}
use Rattle.std.proofs.Math.Seq.{take-append_seam}
use Rattle.text_form.specs.Digits.{over}

-- A list of n numbers went there; the last two say that n fits the array, for whoever takes that part.
pub record Front (l : List ℕ) (n : ℕ) (before after : List ℕ) : Type 0 where
  pub count : n ≡ length l
  pub numbers : after ≡ over l before
  pub fits : n ≤ length after
  pub part : n ≡ length (take n after)

front_of : (l before : List ℕ) (n : ℕ) → n ≡ length l → take n (over l before) ≡ l
front_of l before n e = rw e (take-append_seam l (drop (length l) before))

-- That part of the array is the list.
pub front_is : (l : List ℕ) (n : ℕ) (before after : List ℕ) → Front l n before after → take n after ≡ l
front_is l n before after f = rw f.numbers (front_of l before n f.count)

pub fronted : (l : List ℕ) (n : ℕ) (before after : List ℕ) → n ≡ length l → after ≡ over l before → Front l n before after
fronted l n before after e d =
    let t : take n after ≡ l = rw d (front_of l before n e) in
    record {
      count = e;
      numbers = d;
      fits = rw (d, e, length-append) (omega arith);
      part = rw t e;
    }
