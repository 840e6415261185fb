-- A number with a byte behind it that is no digit is read back, and only what is written is read.
use Rattle.std.specs.Prelude.{Option, Some, None}
use Rattle.std.proofs.Common.{ℕ, ◌≤◌, ◌≡◌, true, false, refl, sym, subst, ap, ◌∙◌, List, [], ◌∷◌, ◌++◌, append_assoc, eqb, eqb-true, eq-eqb}
use Rattle.rules_basics.specs.Basics.{any, last}
use Rattle.rules_basics.specs.Tests.{by_test, neither}
use Rattle.text_form.specs.Digits.{decimal_of}
use Rattle.text_form.specs.Words.{no_digit, number_of}
use Rattle.text_form.specs.Back.{reads_back}
use Rattle.text_form.specs.Exact.{number_exact, number_lacks}
use Rattle.text_form.specs.Forms.{found, Lawful}
use Rattle.text_form.specs.Numbers.{up_to, or_torn, read_number, number_to}
use Rattle.text_form.proofs.Forms.{torn_found, parts}

module _ (stop : ℕ) where
  up_to_back : (w rest : List ℕ) → any (λ (b : ℕ). eqb b stop) w ≡ false → up_to stop (w ++ stop ∷ rest) ≡ found w rest
  unfolding up_to
  up_to_back [] rest h = rw (eq-eqb stop stop refl)
  up_to_back (b ∷ w) rest h =
      let x = neither (eqb b stop) (any (λ (c : ℕ). eqb c stop) w) h in
      rw (x.0, up_to_back w rest x.1)

  up_to_exact : (t w rest : List ℕ) → up_to stop t ≡ found w rest → w ++ stop ∷ rest ≡ t
  unfolding up_to
  up_to_exact [] w rest e = torn_found w rest e
  up_to_exact (b ∷ t) w rest e =
      let more : (v : List ℕ) → up_to stop t ≡ found v rest → v ++ stop ∷ rest ≡ t = λ v. up_to_exact t v rest in
      by_test (eqb b stop)
      (λ y. let f : found [] t ≡ found w rest = rw y at e in let i = eqb-true b stop y in cc)
      (λ n.
      let p = parts (up_to stop t) (λ w r. found (b ∷ w) r) w rest (rw n at e) in
      let j : b ∷ p.value ≡ w = cc in
      subst (λ v. v ++ stop ∷ rest ≡ b ∷ t) j (ap (λ l. b ∷ l) (more p.value (cc))))

module _ (stop : ℕ) (h : no_digit stop ≡ true) where
  pub number_back : (n : ℕ) (rest : List ℕ) → n ≤ last → read_number stop ((decimal_of n ++ stop ∷ []) ++ rest) ≡ found n rest
  unfolding read_number
  number_back n rest l =
      let lacks = number_lacks stop h (decimal_of n) n (reads_back n l) in
      rw (append_assoc (decimal_of n) (stop ∷ []) rest, up_to_back stop (decimal_of n) rest lacks, reads_back n l)

  pub number_read
      : (t : List ℕ) (n : ℕ) (rest : List ℕ) → read_number stop t ≡ found n rest → (n ≤ last) × ((decimal_of n ++ stop ∷ []) ++ rest ≡ t)
  unfolding read_number
  number_read t n rest e =
      let p = parts (up_to stop t) (λ w r. or_torn (number_of w) r) n rest e in
      go p.value p.behind (number_of p.value) refl (up_to_exact stop t p.value p.behind p.first) p.second
    where
      go : (w r : List ℕ) (m : Option ℕ) → number_of w ≡ m → w ++ stop ∷ r ≡ t → or_torn m r ≡ found n rest
          → (n ≤ last) × ((decimal_of n ++ stop ∷ []) ++ rest ≡ t)
      go w r None i j k = torn_found n rest k
      go w r (Some m) i j k =
          let x = number_exact w n (cc) in
          let s : r ≡ rest = cc in
          (x.1, append_assoc (decimal_of n) (stop ∷ []) rest ∙ rw (x.0, sym s) j)

  pub number_to_lawful : Lawful (number_to stop)
  number_to_lawful = record { back = number_back; exact = number_read }
