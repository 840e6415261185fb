-- What the form of a text gives that runs rely on and the conditions do not say: numbers that fit.
use Rattle.std.specs.Prelude.{ℕ, ◌≤◌, ◌≡◌, List, ◌∷◌, Some}
use Rattle.std.proofs.Common.{subst, inl, inr}
use Rattle.rules.specs.Basics.{last}
use Rattle.rules.specs.Holds.{Plugin}
use Rattle.rules.specs.Text.{Said, block, text, read_text}
use Rattle.rules.proofs.Text.{written_read}
use Rattle.text_form.specs.Forms.{Form, FitAll}
use Rattle.rules_laws.specs.Laws.Members.{In}

pub record Formed (s : Said) : Type 0 where
  pub next : s.next ≤ last
  pub revision : (a : Plugin) → In a s.plugins → a.revision ≤ last
  pub generation : (a : Plugin) → In a s.plugins → a.generation ≤ last

each_fits : {A : Type 0} (f : Form A) (l : List A) → FitAll f l → (a : A) → In a l → f.Fits a
each_fits {A = A} f mathlib.Core.List.[] h a x'' = elim x'' [ ]
each_fits f (b ∷ l) h a (inl i) = subst f.Fits i h.0
each_fits f (b ∷ l) h a (inr m) = each_fits f l h.1 a m

pub fits_formed : (s : Said) → text.Fits s → Formed s
fits_formed s h = record {
  next = h.0.1.1;
  generation = λ a m. (fits a m).1.1.1.1.0;
  revision = λ a m. (fits a m).1.1.1.1.1.0;
}
  where
    fits : (a : Plugin) → In a s.plugins → block.Fits a
    fits = each_fits block s.plugins h.1.1

-- Whatever a text says is of the form.
pub text_formed : (t : List ℕ) (s : Said) → read_text t ≡ Some s → Formed s
text_formed t s e = fits_formed s (written_read t s e).0
