-- Lists by places: the lines that were read so far and the place behind them, one line more, and a count with so many lines.
use Rattle.std.specs.Prelude.{ℕ, zero, suc, ◌+◌, ◌-◌, ◌≤◌, ◌<◌, ◌≡◌, refl, List, [], ◌∷◌, ◌++◌, length, Option, Some, None}
use Rattle.std.proofs.Common.{arith, sym, ap, ◌∙◌, subst}
use Rattle.text_form.specs.Forms.{Read, found, torn, and_then, Form, read_many, counted}
use Rattle.text_read_number.specs.Reads.{read_from, read_behind, Reads, ReadsFrom, reads_on, reads_not, ends, from_as, reads_as, from_then, read_on}

module _ {A : Type 0} (f : Form A) where
  -- So many lines behind some that were read.
  abbrev pub onward : ℕ → List A → List ℕ → Read (List A)
  onward k l r = and_then (read_many f k r) (λ m s. found (l ++ m) s)

  none_behind : (r : Read (List A)) → r ≡ and_then r (λ m s. found m s)
  none_behind (found m s) = refl
  none_behind torn = refl

  in_front : (a : A) (l : List A) (r : Read (List A))
      → and_then (and_then r (λ m s. found (l ++ m) s)) (λ m s. found (a ∷ m) s) ≡ and_then r (λ m s. found (a ∷ l ++ m) s)
  in_front a l (found m s) = refl
  in_front a l torn = refl

  -- First some, then the others.
  pub many_split : (i k : ℕ) (s : List ℕ) → read_many f (i + k) s ≡ and_then (read_many f i s) (λ l r. onward k l r)
  many_split zero k s = let z : 0 + k ≡ k = omega arith in rw z (none_behind (read_many f k s))
  many_split (suc i) k s = let z : suc i + k ≡ suc (i + k) = omega arith in rw z (go (f.read s) (λ r. many_split i k r))
    where
      under : (a : A) (x : Read (List A)) → and_then (and_then x (λ l r. onward k l r)) (λ l s. found (a ∷ l) s)
          ≡ and_then (and_then x (λ l s. found (a ∷ l) s)) (λ l r. onward k l r)
      under a (found l r) = in_front a l (read_many f k r)
      under a torn = refl

      go : (x : Read A) → ((r : List ℕ) → read_many f (i + k) r ≡ and_then (read_many f i r) (λ l r. onward k l r))
          → and_then x (λ a r. and_then (read_many f (i + k) r) (λ l s. found (a ∷ l) s))
          ≡ and_then (and_then x (λ a r. and_then (read_many f i r) (λ l s. found (a ∷ l) s))) (λ l r. onward k l r)
      go (found a r) e = rw (e r) (under a (read_many f i r))
      go torn e = refl

  -- No line is read yet.
  pub many_none : (t : List ℕ) (at : ℕ) → at ≤ length t → Reads (read_many f 0) t at (Some ([], at))
  many_none t at h = ends [] t at h

  -- Some lines are torn, and so is the list.
  pub many_torn : (i k : ℕ) → i ≤ k → {t : List ℕ} {at : Option ℕ} → ReadsFrom (read_many f i) t at None → ReadsFrom (read_many f k) t at None
  many_torn i k h {t} {at} x =
      let e : i + (k - i) ≡ k = omega arith in
      subst (λ j. ReadsFrom (read_many f j) t at None) e
      (reads_as (λ s. and_then (read_many f i s) (λ l r. onward (k - i) l r)) (read_many f (i + (k - i))) (λ s. sym (many_split i (k - i) s))
      (reads_not (read_many f i) (λ l r. onward (k - i) l r) t x))

  -- Some lines were read, and what is left is read from the place behind them.
  module _ (i : ℕ) {t : List ℕ} {at : Option ℕ} {m : ℕ} {l : List A} (x : ReadsFrom (read_many f i) t at (Some (l, m))) where
    pub many_left : (k : ℕ) → i ≤ k → read_behind (read_many f k) t at ≡ and_then (read_from (read_many f (k - i)) t m) (λ r s. found (l ++ r) s)
    many_left k h =
        let e : i + (k - i) ≡ k = omega arith in
        ap (λ j. read_behind (read_many f j) t at) (sym e)
        ∙ from_as (read_many f (i + (k - i))) (λ s. and_then (read_many f i s) (λ l r. onward (k - i) l r)) (many_split i (k - i)) t at
        ∙ read_on (read_many f i) (λ l r. onward (k - i) l r) t x
        ∙ from_then (read_many f (k - i)) (λ r s. found (l ++ r) s) t (Some m)

    -- One line more.
    pub many_more : {a : A} {n : ℕ} → Reads f.read t m (Some (a, n)) → ReadsFrom (read_many f (i + 1)) t at (Some (l ++ a ∷ [], n))
    many_more {a} {n} y =
        let one : Reads (read_many f 1) t m (Some (a ∷ [], n)) =
        reads_on f.read (λ a r. and_then (read_many f 0 r) (λ l s. found (a ∷ l) s)) t y (ends (a ∷ []) t n y.fits) in
        reads_as (λ s. and_then (read_many f i s) (λ l r. onward 1 l r)) (read_many f (i + 1)) (λ s. sym (many_split i 1 s))
        (reads_on (read_many f i) (λ l r. onward 1 l r) t x (reads_on (read_many f 1) (λ m s. found (l ++ m) s) t one (ends (l ++ a ∷ []) t n y.fits)))

    -- The next line is torn, and so is the list.
    pub line_torn : (k : ℕ) → i < k → Reads f.read t m None → ReadsFrom (read_many f k) t at None
    line_torn k h y =
        let e : suc (k - i - 1) ≡ k - i = omega arith in
        let rest : Reads (read_many f (k - i)) t m None =
        subst (λ j. Reads (read_many f j) t m None) e (reads_not f.read (λ a r. and_then (read_many f (k - i - 1) r) (λ l s. found (a ∷ l) s)) t y) in
        record { said = sym (many_left k (omega arith) ∙ ap (λ z. and_then z (λ r s. found (l ++ r) s)) (sym rest.said)); fits = tt }

-- A count, and so many lines.
module _ {A : Type 0} (count : Form ℕ) (f : Form A) {t : List ℕ} {at : Option ℕ} where
  pub counted_torn : ReadsFrom count.read t at None → ReadsFrom (counted count f).read t at None
  counted_torn x = reads_not count.read (λ k r. read_many f k r) t x

  pub counted_next : {m k : ℕ} {r : Option (List A × ℕ)} → ReadsFrom count.read t at (Some (k, m)) → Reads (read_many f k) t m r → ReadsFrom (counted count f).read t at r
  counted_next x y = reads_on count.read (λ k r. read_many f k r) t x y
