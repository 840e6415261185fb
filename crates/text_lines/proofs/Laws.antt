-- The bytes of a list from a place on, and its ports. Assumes nothing.
use Prim.Native.Nat.{ℕ, ◌+◌, ◌<◌}
use native.Mathlib.Numerals.{add-one}
use native.Mathlib.Omega.{arith}
use mathlib.Core.Path.{◌≡◌, refl, sym, ap, subst, ◌∙◌}
use mathlib.Core.List.{List, [], ◌∷◌, ◌++◌}
use lib.ListN.{length, get_or, drop}
use lib.Seq.{drop-cons}
use Rattle.rules.specs.Holds.{port}
use Rattle.rules.specs.Ports.{pairs}
use Rattle.text_lines.specs.Laid.{Laid}

pub byte_next : (l : List ℕ) (i : ℕ) → i < length l → drop i l ≡ get_or l i 0 ∷ drop (i + 1) l
byte_next l i h = drop-cons l i 0 h ∙ ap (λ (k : ℕ). get_or l i 0 ∷ drop k l) (sym (add-one i))

single : (l : List ℕ) → length l ≡ 1 → get_or l 0 0 ∷ [] ≡ l
single [] h = absurd (omega arith)
single (x ∷ []) h = refl
single (x ∷ y ∷ l) h = absurd (omega arith)

-- A list of one byte is laid as that byte.
pub one_laid : {d l : List ℕ} {at : ℕ} {t u : List ℕ} {r : ℕ} → d ≡ l → length d ≡ 1 → Laid (get_or d 0 0 ∷ []) at t u r → Laid l at t u r
one_laid {d} {at = at} {t} {u} {r} e h x = subst (λ (k : List ℕ). Laid k at t u r) (single d h ∙ e) x
