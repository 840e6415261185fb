-- What is told in a host's words is read back from them.
use Rattle.std.specs.Prelude.{ℕ, suc, ◌+◌, ◌<◌, ◌≡◌, refl, List, [], ◌∷◌, ◌++◌, length, get_or, drop, set, Option, Some, None}
use Rattle.std.proofs.Common.{ap, ◌∙◌, arith}
use Rattle.std.proofs.lemmas.List.Edits.{sets, sets-eq}
use Rattle.std.proofs.Math.Seq.{take-append_seam}
use Rattle.rules.specs.Basics.{one}
use Rattle.rules.specs.Holds.{Plugin}
use Rattle.rules_types.specs.declared.Root.{Root}
use Rattle.rules_types.specs.declared.Root.TheVariants.{Unissued, Queued, Spent}
use Rattle.rules.specs.Outcomes.{Answer, Refused, Accepted}
use Rattle.rules.specs.Queries.{Field, Parent, Anchor, EditionOf, PhaseOf, RetiredMark, Generation, Revision, Payload, RootOf, root_numbers, field_of}
use Rattle.memory.specs.Writes.{puts}
use Rattle.memory.specs.Frames.{puts_length}
use Rattle.host_answers.specs.Told.{counted, words_of}
use Rattle.console_answer.specs.Answers.{told_in}

stores : (vs m : List ℕ) (b k : ℕ) → puts m b k vs ≡ sets m (b + k) vs
stores [] m b k = refl
stores (v ∷ vs) m b k =
    let e : b + (k + 1) ≡ suc (b + k) = omega arith in
    stores vs (set m (b + k) v) b (k + 1) ∙ ap (λ (i : ℕ). sets (set m (b + k) v) i vs) e

module _ (l out : List ℕ) (h : length l < length out) where
  -- The count, the numbers, and what of the words is not written.
  in_front : counted l out ≡ length l ∷ l ++ drop (suc (length l)) out
  in_front =
      let e : 0 + suc (length l) ≡ suc (length l) = omega arith in
      stores (length l ∷ l) out 0 0 ∙ sets-eq (length l ∷ l) out 0 (omega arith) ∙ ap (λ (i : ℕ). length l ∷ l ++ drop i out) e

  pub count_told : get_or (counted l out) 0 0 ≡ length l
  count_told = ap (λ (w : List ℕ). get_or w 0 0) in_front

  pub told_back : told_in (counted l out) ≡ l
  told_back = ap (λ (w : List ℕ). told_in w) in_front ∙ take-append_seam l (drop (suc (length l)) out)

pub words_length : (a : Answer) (out : List ℕ) → length (words_of a out) ≡ length out
unfolding words_of
words_length (Refused n []) out = refl
words_length (Refused n (v ∷ vs)) out = puts_length (length (v ∷ vs) ∷ v ∷ vs) out 0 0
words_length (Accepted vs) out = puts_length (length vs ∷ vs) out 0 0

-- A field's numbers fit the words that a host lends, behind their count.
pub one_fits : (o : Option ℕ) → length (one o) < 7
one_fits None = omega arith
one_fits (Some n) = omega arith

root_fits : (r : Root) → length (root_numbers r) < 7
root_fits Unissued = omega arith
root_fits (Queued v a) = omega arith
root_fits Spent = omega arith

pub field_fits : (f : Field) (p : Plugin) → length (field_of f p) < 7
field_fits Parent p = one_fits p.parent
field_fits Anchor p = omega arith
field_fits EditionOf p = omega arith
field_fits PhaseOf p = omega arith
field_fits RetiredMark p = omega arith
field_fits Generation p = omega arith
field_fits Revision p = omega arith
field_fits Payload p = omega arith
field_fits RootOf p = root_fits p.root
