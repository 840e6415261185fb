-- A form whose values are some of another's, each by the same bytes: it is read where the other reads one of those. Assumes nothing.
use Rattle.std.specs.Prelude.{Option, Some, None}
use Prim.Native.Nat.{ℕ, ◌≤◌, ◌<◌}
use native.Mathlib.Omega.{arith}
use mathlib.Core.Path.{◌≡◌, refl, sym, ap, ◌∙◌}
use mathlib.Core.Bool.{Bool, true, false}
use mathlib.Core.List.{List, ◌++◌}
use lib.Dec.{ltb}
use lib.ListN.{length, drop}
use Rattle.rules_basics.specs.Basics.{pick, last}
use Rattle.rules_types.specs.declared.Phase.{Phase}
use Rattle.rules_types.specs.declared.Phase.TheVariants.{Idle, Loading, Active, Unloading}
use Rattle.rules.specs.Basics.{yes_no}
use Rattle.rules.specs.Queries.{phase_number}
use Rattle.rules.specs.Text.Values.{phase, zero_or_one}
use Rattle.text_form.specs.Digits.{decimal_of, digits_in}
use Rattle.text_form.specs.Lines.{line, number}
use Rattle.text_form.specs.Forms.{Read, found, torn, Form, Lawful}
use Rattle.text_form.proofs.Forms.{torn_found}
use Rattle.text_form.proofs.Lines.{line_lawful, number_lawful}
use Rattle.rules.proofs.Text.Values.{phase_lawful, zero_or_one_lawful}
use Rattle.text_read_number.specs.Reads.{ReadsFrom}

module _ {A B : Type 0} (f : Form A) (g : Form B) (k : Lawful f) (l : Lawful g) (code : A → B)
    (same : (a : A) → f.write a ≡ g.write (code a)) (fit : (a : A) → f.Fits a × g.Fits (code a)) where
  one_found : (s : List ℕ) (a : A) (rest : List ℕ) → g.read s ≡ found (code a) rest → f.read s ≡ found a rest
  one_found s a rest e =
      let x = l.exact s (code a) rest e in
      ap f.read (sym (ap (λ w. w ++ rest) (same a) ∙ x.1)) ∙ k.back a rest (fit a).0

  none_found : (s : List ℕ) → ((a : A) (rest : List ℕ) → g.read s ≡ found (code a) rest → ⊥) → f.read s ≡ torn
  none_found s other = go (f.read s) refl
    where
      go : (x : Read A) → f.read s ≡ x → x ≡ torn
      go (found a rest) e =
          let x = k.exact s a rest e in
          absurd (other a rest (ap g.read (sym (ap (λ w. w ++ rest) (sym (same a)) ∙ x.1)) ∙ l.back (code a) rest (fit a).1))
      go torn e = refl

  -- The same, where a place may lie past the end.
  pick_one : (past : Bool) (s : List ℕ) (a : A) (rest : List ℕ) → found (code a) rest ≡ pick past torn (g.read s) → found a rest ≡ pick past torn (f.read s)
  pick_one true s a rest e = torn_found (code a) rest (sym e)
  pick_one false s a rest e = sym (one_found s a rest (sym e))

  pick_torn : (past : Bool) (s : List ℕ) → torn ≡ pick past torn (g.read s) → torn ≡ pick past torn (f.read s)
  pick_torn true s e = refl
  pick_torn false s e = sym (none_found s (λ a rest h. torn_found (code a) rest (e ∙ h)))

  pick_other : (past : Bool) (s : List ℕ) (b : B) (rest : List ℕ) → ((a : A) → code a ≡ b → ⊥)
      → found b rest ≡ pick past torn (g.read s) → torn ≡ pick past torn (f.read s)
  pick_other true s b rest n e = refl
  pick_other false s b rest n e = sym (none_found s (λ a r h. n a (cc)))

  -- One of the values, another, and nothing.
  pub fewer_next : {t : List ℕ} {at : Option ℕ} {a : A} {n : ℕ} → ReadsFrom g.read t at (Some (code a, n)) → ReadsFrom f.read t at (Some (a, n))
  fewer_next {t} {at = Some at} {a} {n} x = record { said = pick_one (ltb (length t) at) (drop at t) a (drop n t) x.said; fits = x.fits }
  fewer_next {t} {at = None} {a} {n} x = torn_found (code a) (drop n t) (sym x.said)

  pub fewer_torn : {t : List ℕ} {at : Option ℕ} → ReadsFrom g.read t at None → ReadsFrom f.read t at None
  fewer_torn {t} {at = Some at} x = record { said = pick_torn (ltb (length t) at) (drop at t) x.said; fits = tt }
  fewer_torn {at = None} x = record { said = refl; fits = tt }

  pub fewer_other : {t : List ℕ} {at : Option ℕ} {b : B} {n : ℕ} → ((a : A) → code a ≡ b → ⊥) → ReadsFrom g.read t at (Some (b, n)) → ReadsFrom f.read t at None
  fewer_other {t} {at = Some at} {b} {n} o x = record { said = pick_other (ltb (length t) at) (drop at t) b (drop n t) o x.said; fits = tt }
  fewer_other {at = None} o x = record { said = refl; fits = tt }

-- 0 to 3 are the phases.
phase_digit : (p : Phase) → (line "phase" phase).write p ≡ (line "phase" number).write (phase_number p)
unfolding decimal_of digits_in
phase_digit Idle = refl
phase_digit Loading = refl
phase_digit Active = refl
phase_digit Unloading = refl

phase_low : (p : Phase) → phase_number p ≤ 3
phase_low Idle = omega arith
phase_low Loading = omega arith
phase_low Active = omega arith
phase_low Unloading = omega arith

phase_fits : (p : Phase) → Unit {0} × (phase_number p ≤ last)
phase_fits p = (tt, omega (arith, phase_low p))

phases : Lawful (line "phase" phase)
phases = line_lawful "phase" phase_lawful

numbers : Lawful (line "phase" number)
numbers = line_lawful "phase" number_lawful

module _ {t : List ℕ} {at : Option ℕ} where
  pub phase_next : (p : Phase) {n : ℕ} → ReadsFrom (line "phase" number).read t at (Some (phase_number p, n)) → ReadsFrom (line "phase" phase).read t at (Some (p, n))
  phase_next p x = fewer_next (line "phase" phase) (line "phase" number) phases numbers phase_number phase_digit phase_fits x

  pub phase_torn : ReadsFrom (line "phase" number).read t at None → ReadsFrom (line "phase" phase).read t at None
  phase_torn x = fewer_torn (line "phase" phase) (line "phase" number) phases numbers phase_number phase_digit phase_fits x

  pub phase_over : {k n : ℕ} → 3 < k → ReadsFrom (line "phase" number).read t at (Some (k, n)) → ReadsFrom (line "phase" phase).read t at None
  phase_over h x =
      fewer_other (line "phase" phase) (line "phase" number) phases numbers phase_number phase_digit phase_fits (λ p e. omega (arith, phase_low p)) x

-- 0 and 1 are no and yes.
mark_digit : (b : Bool) → (line "retired" zero_or_one).write b ≡ (line "retired" number).write (yes_no b)
unfolding decimal_of digits_in
mark_digit true = refl
mark_digit false = refl

mark_low : (b : Bool) → yes_no b ≤ 1
mark_low true = omega arith
mark_low false = omega arith

mark_fits : (b : Bool) → Unit {0} × (yes_no b ≤ last)
mark_fits b = (tt, omega (arith, mark_low b))

marks : Lawful (line "retired" zero_or_one)
marks = line_lawful "retired" zero_or_one_lawful

counts : Lawful (line "retired" number)
counts = line_lawful "retired" number_lawful

module _ {t : List ℕ} {at : Option ℕ} where
  pub mark_next : (b : Bool) {n : ℕ} → ReadsFrom (line "retired" number).read t at (Some (yes_no b, n)) → ReadsFrom (line "retired" zero_or_one).read t at (Some (b, n))
  mark_next b x = fewer_next (line "retired" zero_or_one) (line "retired" number) marks counts yes_no mark_digit mark_fits x

  pub mark_torn : ReadsFrom (line "retired" number).read t at None → ReadsFrom (line "retired" zero_or_one).read t at None
  mark_torn x = fewer_torn (line "retired" zero_or_one) (line "retired" number) marks counts yes_no mark_digit mark_fits x

  pub mark_over : {k n : ℕ} → 1 < k → ReadsFrom (line "retired" number).read t at (Some (k, n)) → ReadsFrom (line "retired" zero_or_one).read t at None
  mark_over h x =
      fewer_other (line "retired" zero_or_one) (line "retired" number) marks counts yes_no mark_digit mark_fits (λ b e. omega (arith, mark_low b)) x
