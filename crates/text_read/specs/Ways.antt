-- The ways to make a form from others, by places: what is read of the whole by what is read of its parts. Where a part is torn, so is
-- the whole.
use Rattle.std.specs.Prelude.{ℕ, ◌≤◌, ◌<◌, ◌≡◌, refl, Bool, true, false, List, [], ◌∷◌, ◌++◌, eqb, ltb, length, drop, Option, Some, None}
use Rattle.std.proofs.Common.{arith, sym, ap, ◌∙◌, inl, inr, length-drop, drop_of_length-le}
use Rattle.rules_basics.specs.Basics.{pick}
use Rattle.rules_basics.specs.Tests.{by_test}
use Rattle.rules.specs.Holds as holds
use Rattle.text_form.specs.Forms.{Read, found, torn, and_then, or_else, expect, Form, ◌then◌, either, alone, read_text}
use Rattle.text_read_number.specs.Reads.{read_from, read_behind, Reads, ReadsFrom, said_as, read_at, reads_one, from_then, reads_on, reads_not, ends}
use Rattle.text_read.specs.declared.Provision.{Provision}

-- a provision as the rules hold it
abbrev pub provision_of : Provision → holds.Provision
provision_of v = record { port = v.port; value = v.value }

provision_exact : (r s : Option (Provision × ℕ)) → said_as provision_of r ≡ said_as provision_of s → r ≡ s
provision_exact (Some (v, m)) (Some (w, n)) e =
    let p : ◌≡◌ {A = holds.Provision × ℕ} (provision_of v, m) (provision_of w, n) = cc in
    ap (λ (q : holds.Provision × ℕ). Some (record { port = q.0.port; value = q.0.value }, q.1)) p
provision_exact (Some (v, m)) None e = cc
provision_exact None (Some (w, n)) e = cc
provision_exact None None e = refl

-- Two answers that say the same provision are equal.
pub provision_one : {read : List ℕ → Read holds.Provision} {t : List ℕ} {at : Option ℕ} (r s : Option (Provision × ℕ))
    → ReadsFrom read t at (said_as provision_of r) → ReadsFrom read t at (said_as provision_of s) → r ≡ s
provision_one r s x y = provision_exact r s (reads_one x y)

-- Certain bytes, in two parts.
pub expect_append : (u v s : List ℕ) → and_then (expect u s) (λ x r. expect v r) ≡ expect (u ++ v) s
unfolding expect
expect_append [] v s = refl
expect_append (b ∷ u) v [] = refl
expect_append (b ∷ u) v (c ∷ s) =
    let more = expect_append u v s in
    by_test (eqb b c) (λ y. rw y more) (λ n. rw n)

-- One form, then another.
module _ {A B : Type 0} (f : Form A) (g : Form B) {t : List ℕ} {at : Option ℕ} where
  pub then_torn : ReadsFrom f.read t at None → ReadsFrom (f then g).read t at None
  then_torn x = reads_not f.read (λ a r. and_then (g.read r) (λ b s. found (a, b) s)) t x

  module _ {a : A} {m : ℕ} (x : ReadsFrom f.read t at (Some (a, m))) where
    pub then_next : {b : B} {n : ℕ} → Reads g.read t m (Some (b, n)) → ReadsFrom (f then g).read t at (Some ((a, b), n))
    then_next {b} {n} y =
        reads_on f.read (λ a r. and_then (g.read r) (λ b s. found (a, b) s)) t x (reads_on g.read (λ b s. found (a, b) s) t y (ends (a, b) t n y.fits))

    pub then_none : Reads g.read t m None → ReadsFrom (f then g).read t at None
    then_none y = reads_on f.read (λ a r. and_then (g.read r) (λ b s. found (a, b) s)) t x (reads_not g.read (λ b s. found (a, b) s) t y)

-- The same values held in another way.
pub like_next : {A B : Type 0} (f : Form A) (to : A → B) {t : List ℕ} {at : Option ℕ} {r : Option (A × ℕ)}
    → ReadsFrom f.read t at r → ReadsFrom (λ s. and_then (f.read s) (λ a r. found (to a) r)) t at (said_as to r)
like_next f to {t} {r = Some (a, n)} x = reads_on f.read (λ a r. found (to a) r) t x (ends (to a) t n x.fits)
like_next f to {t} {r = None} x = reads_not f.read (λ a r. found (to a) r) t x

-- One form or another: the second where the first is torn.
torn_or : {A : Type 0} (b : Bool) (r s : Read A) → pick b torn (or_else r s) ≡ or_else (pick b torn r) (pick b torn s)
torn_or true r s = refl
torn_or false r s = refl

from_or : {A : Type 0} (f g : List ℕ → Read A) (t : List ℕ) (at : Option ℕ)
    → read_behind (λ s. or_else (f s) (g s)) t at ≡ or_else (read_behind f t at) (read_behind g t at)
from_or f g t (Some at) = torn_or (ltb (length t) at) (f (drop at t)) (g (drop at t))
from_or f g t None = refl

module _ {A B : Type 0} (f : Form A) (g : Form B) where
  from_either : (t : List ℕ) (at : Option ℕ) → read_behind (either f g).read t at
      ≡ or_else (and_then (read_behind f.read t at) (λ a r. found (inl a) r)) (and_then (read_behind g.read t at) (λ b r. found (inr b) r))
  from_either t at =
      from_or (λ s. and_then (f.read s) (λ a r. found (inl a) r)) (λ s. and_then (g.read s) (λ b r. found (inr b) r)) t at
      ∙ ap (λ z. or_else z (read_behind (λ s. and_then (g.read s) (λ b r. found (inr b) r)) t at)) (from_then f.read (λ a r. found (inl a) r) t at)
      ∙ ap (or_else (and_then (read_behind f.read t at) (λ a r. found (inl a) r))) (from_then g.read (λ b r. found (inr b) r) t at)

  pub either_first : {t : List ℕ} {at : Option ℕ} {a : A} {n : ℕ} → ReadsFrom f.read t at (Some (a, n)) → ReadsFrom (either f g).read t at (Some (inl a, n))
  either_first {t} {at} x = record { said = sym (from_either t at ∙ rw (← x.said)); fits = x.fits }

  pub either_second : {t : List ℕ} {at : Option ℕ} {r : Option (B × ℕ)}
      → ReadsFrom f.read t at None → ReadsFrom g.read t at r → ReadsFrom (either f g).read t at (said_as inr r)
  either_second {t} {at} {r = Some (b, n)} x y = record { said = sym (from_either t at ∙ rw (← x.said, ← y.said)); fits = y.fits }
  either_second {t} {at} {r = None} x y = record { said = sym (from_either t at ∙ rw (← x.said, ← y.said)); fits = tt }

-- A whole text: nothing stands behind what is read, something does, or it is torn.
module _ {A : Type 0} (f : Form A) (t : List ℕ) where
  begun : (r : Read A) → r ≡ read_from f.read t 0 → read_text f t ≡ alone r
  begun r e = ap alone (sym (e ∙ read_at f.read t 0 (omega arith)))

  pub whole_all : (a : A) → Reads f.read t 0 (Some (a, length t)) → read_text f t ≡ Some a
  whole_all a x =
      let h : length t ≤ length t = omega arith in
      begun (found a (drop (length t) t)) x.said ∙ rw (drop_of_length-le t h)

  pub whole_part : (a : A) (n : ℕ) → n < length t → Reads f.read t 0 (Some (a, n)) → read_text f t ≡ None
  whole_part a n h x = begun (found a (drop n t)) x.said ∙ go (drop n t) (omega (arith, length-drop n t))
    where
      go : (s : List ℕ) → 0 < length s → alone (found a s) ≡ None
      go [] l = absurd (omega arith)
      go (b ∷ s) l = refl

  pub whole_torn : Reads f.read t 0 None → read_text f t ≡ None
  whole_torn x = begun torn x.said
