-- Certain bytes stand at a place where all that is left begins with them.
use Rattle.std.specs.Prelude.{ℕ, refl, ◌+◌, ◌-◌, ◌≤◌, ◌≡◌, Bool, true, false, List, length, take, drop, Some, None}
use Rattle.std.proofs.Common.{arith, sym, ap, ◌∙◌, true≢false, take_all, length-drop, drop-drop}
use Rattle.std.specs.Cmp.Lexicographic.{pointwise}
use Rattle.std.proofs.lemmas.Bool.Decides.{Decides-eqb}
use Rattle.std.proofs.lemmas.Slice.Eq.{starts_is}
use lib.Dec.{eqb}
use Rattle.text_form.specs.Forms.{Read, found, torn, expect}
use Rattle.text_form.proofs.Forms.{expect_back, expect_exact}
use Rattle.text_read_number.specs.Reads.{Stands, reads_torn, reads_found}

-- What is asked is whether the bytes stand there.
module _ (w s : List ℕ) {b : Bool} (e : b ≡ pointwise eqb w (take (length w) s)) where
  begins : b ≡ true → expect w s ≡ found tt (drop (length w) s)
  begins y = ap (expect w) ((starts_is Decides-eqb s w b e).0 y) ∙ expect_back w (drop (length w) s)

  begins_not : b ≡ false → expect w s ≡ torn
  begins_not n = go (expect w s) refl
    where
      go : (x : Read (Unit {0})) → expect w s ≡ x → x ≡ torn
      go (found u rest) i = absurd (true≢false (sym ((starts_is Decides-eqb s w b e).1 rest (sym (expect_exact w s u rest i))) ∙ n))
      go torn i = refl

-- What is left of a text from a place on, in which they stand in front or not.
module _ (w t : List ℕ) (at : ℕ) (rest : List ℕ) (inside : at ≤ length t) (left : rest ≡ take (length t - at) (drop at t)) {b : Bool}
    (e : b ≡ pointwise eqb w (take (length w) rest)) where
  all_left : rest ≡ drop at t
  all_left = left ∙ take_all (length t - at) (drop at t) (omega (arith, length-drop at t))

  pub stands : length w ≤ length rest → b ≡ true → Stands (expect w) t at (Some (at + length w))
  stands few y =
      let behind : drop (length w) rest ≡ drop (at + length w) t = ap (drop (length w)) all_left ∙ (drop-drop (length w) at t ∙ ap (λ n. drop n t) (omega arith)) in
      let size = length-drop at t in
      reads_found (expect w) t at inside tt (at + length w) (rw (← all_left) (begins w rest e y) ∙ ap (found tt) behind)
      (omega (arith, ap length all_left))

  pub stands_not : b ≡ false → Stands (expect w) t at None
  stands_not n = reads_torn (expect w) t at inside (rw (← all_left) (begins_not w rest e n))
