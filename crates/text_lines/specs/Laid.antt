-- Bytes laid from a place of a text on, and the place behind them.
use Prim.Native.Nat.{ℕ, suc, ◌+◌, ◌-◌, ◌≤◌, ◌<◌, min}
use Rattle.std.proofs.Common.{eq-zero-or-pos, add-one, sym, ap, ◌∙◌, ⊎_elim, length-append, drop_of_length-le}
use native.Mathlib.Omega.{arith}
use Rattle.std.specs.Prelude.{◌≡◌, refl, List, [], ◌∷◌, ◌++◌, length, get_or, set, drop}
use Rattle.std.proofs.lemmas.List.Edits.{sets, sets-eq}
use Rattle.std.proofs.Math.Seq.{length-sets, drop-cons, set_out}
use Rattle.rules.specs.Basics.{last}
use Rattle.text_form.specs.Digits.{over}

-- Bytes past the text's end go nowhere.
unfoldable pub laid : List ℕ → ℕ → List ℕ → List ℕ
laid text at bytes = sets text at bytes

-- Those count all the same, up to the last number: the place behind is no more than that. A text that memory holds fits below it,
-- so that one promise goes on where another ends.
pub record Laid (bytes : List ℕ) (at : ℕ) (before after : List ℕ) (r : ℕ) : Type 0 where
  pub place : r ≡ min (at + length bytes) last
  pub text : after ≡ laid before at bytes
  pub fits : length before ≤ last

pub laid_length : (t : List ℕ) (at : ℕ) (l : List ℕ) → length (laid t at l) ≡ length t
unfolding laid
laid_length t at l = length-sets t at l

pub laid_same : {l t u : List ℕ} {at r : ℕ} → Laid l at t u r → length u ≡ length t
laid_same {l} {t} {at = at} x = ap length x.text ∙ laid_length t at l

sets_past : (t : List ℕ) (at : ℕ) (l : List ℕ) → length t ≤ at → sets t at l ≡ t
sets_past t at [] h = refl
sets_past t at (b ∷ l) h = rw (set_out t at b h) (sets_past t (suc at) l (omega arith))

pub laid_past : (t : List ℕ) (at : ℕ) (l : List ℕ) → length t ≤ at → laid t at l ≡ t
unfolding laid
laid_past t at l h = sets_past t at l h

-- From the first byte on, one byte more, and none left.
module _ (t bytes : List ℕ) (at i : ℕ) where
  pub laid_next : i < length bytes → laid t (at + i) (drop i bytes) ≡ laid (set t (at + i) (get_or bytes i 0)) (at + (i + 1)) (drop (i + 1) bytes)
  unfolding laid
  laid_next h =
      let e : at + suc i ≡ suc (at + i) = omega arith in
      rw (add-one i, e, drop-cons bytes i 0 h)

  pub laid_end : length bytes ≤ i → laid t (at + i) (drop i bytes) ≡ t
  unfolding laid
  laid_end h = rw (drop_of_length-le bytes h)

pub laid_start : (t : List ℕ) (at : ℕ) (bytes : List ℕ) → laid t at bytes ≡ laid t (at + 0) (drop 0 bytes)
laid_start t at bytes = let e : at + 0 ≡ at = omega arith in rw e

pub laid_byte : (t : List ℕ) (at b : ℕ) → laid t at (b ∷ []) ≡ set t at b
unfolding laid
laid_byte t at b = refl

-- Past the last number there is no text.
laid_behind : (t : List ℕ) (p : ℕ) (b : List ℕ) → length t ≤ last → laid t (min p last) b ≡ laid t p b
laid_behind t p b h =
    ⊎_elim
    (λ (z : p - last ≡ 0). let e : min p last ≡ p = omega arith in rw e)
    (λ (g : 0 < p - last).
    let e : min p last ≡ last = omega arith in
    rw e (laid_past t last b h ∙ sym (laid_past t p b (omega arith))))
    (eq-zero-or-pos (p - last))

sets_append : (t : List ℕ) (at : ℕ) (a b : List ℕ) → sets t at (a ++ b) ≡ sets (sets t at a) (at + length a) b
sets_append t at [] b = let e : at + 0 ≡ at = omega arith in rw e
sets_append t at (x ∷ a) b = let e : at + suc (length a) ≡ suc at + length a = omega arith in rw e (sets_append (set t at x) (suc at) a b)

laid_append : (t : List ℕ) (at : ℕ) (a b : List ℕ) → laid t at (a ++ b) ≡ laid (laid t at a) (at + length a) b
unfolding laid
laid_append t at a b = sets_append t at a b

-- No byte, and some bytes and then others.
pub laid_none : (at : ℕ) (t : List ℕ) → at ≤ last → length t ≤ last → Laid [] at t t at
unfolding laid
laid_none at t h f = record { place = omega arith; text = refl; fits = f }

pub laid_then : {a b : List ℕ} {at : ℕ} {t u v : List ℕ} {r s : ℕ} → Laid a at t u r → Laid b r u v s → Laid (a ++ b) at t v s
laid_then {a} {b} {at} {t} x y = record {
  place = let i = x.place in let j = y.place in omega (arith, length-append a b);
  text = y.text ∙ rw (x.place, x.text, laid_append t at a b) (laid_behind (laid t at a) (at + length a) b (omega (arith, x.fits, laid_length t at a)));
  fits = x.fits;
}

-- Bytes that fit stand at the front, and the rest stays.
pub laid_front : (l t : List ℕ) → length l ≤ length t → laid t 0 l ≡ over l t
unfolding laid
laid_front l t h = let e : 0 + length l ≡ length l = omega arith in sets-eq l t 0 (omega arith) ∙ ap (λ k. l ++ drop k t) e
