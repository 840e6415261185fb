-- The registry's text behind its line, and a room of as many bytes as there are. Assumes nothing.
use Prim.Native.Nat.{ℕ}
use mathlib.Core.Path.{◌≡◌, refl, sym, ◌∙◌}
use mathlib.Core.Bool.{Bool, true, false}
use mathlib.Core.List.{List}
use native.Mathlib.Omega.{arith}
use lib.Dec.{ltb}
use lib.ListN.{length, get_or, take, replicate, length-replicate}
use lib.Seq.{take_all, length-take-le}
use Rattle.std.specs.Prelude.{min}
use borrow.Author.Tests.{eq-eqb, ne_eqb, ltb-true, ltb-false}
use Rattle.rules.specs.Steps.{Write}
use Rattle.rules.specs.Questions as writing
use Rattle.host.specs.Tells.{ListsAndTells}
use Rattle.console_answer.specs.Pages.{put_on}
use Rattle.console_answer.specs.declared.Page.{Page}
use Rattle.console_answer.specs.Answers.{told_in}
use Rattle.console_names.specs.declared.Values.TheVariants.{Numbers}
use Rattle.console_show.specs.Spoken.{spoken_on}
use Rattle.console_line.specs.Lines.{line_end, untold, text_on}

module _ (p : Page) (m : List ℕ) where
  -- The text is said behind the line of an acceptance, and a refusal says its line alone.
  module _ (lent lent' out : List ℕ) (status : ℕ) (t : ListsAndTells m (Write writing.Text lent) untold status out lent') (q : Page)
      (e : q ≡ line_end (spoken_on p Numbers status (told_in out))) where
    pub no_text : (status ≡ 0 → ⊥) → q ≡ text_on p m lent
    unfolding text_on
    no_text h = rw (← t.0.0, ← t.0.1, ne_eqb status 0 h) e

    pub text_put : status ≡ 0 → (r : Page) (bytes : List ℕ) → bytes ≡ take (get_or out 1 0) lent' → r ≡ put_on q bytes → r ≡ text_on p m lent
    unfolding text_on
    text_put h r bytes b f = f ∙ rw (b, t.1, e, ← t.0.0, ← t.0.1, eq-eqb status 0 h)

-- So many zeros of a room, or as many as there are.
module _ (room size n : ℕ) (e : n ≡ min room size) where
  pub lent : take {A = ℕ} n (replicate room 0) ≡ take size (replicate room 0)
  lent = go (ltb room size) refl
    where
      go : (b : Bool) → ltb room size ≡ b → take {A = ℕ} n (replicate room 0) ≡ take size (replicate room 0)
      go true d =
          let h = ltb-true room size d in
          take_all n (replicate {A = ℕ} room 0) (rw (length-replicate {A = ℕ} room 0) (omega arith))
          ∙ sym (take_all size (replicate {A = ℕ} room 0) (rw (length-replicate {A = ℕ} room 0) (omega arith)))
      go false d =
          let h = ltb-false room size d in
          let k : n ≡ size = omega arith in
          rw k

  pub lent_length : n ≡ length {A = ℕ} (take n (replicate room 0))
  lent_length = sym (length-take-le n (replicate {A = ℕ} room 0) (rw (length-replicate {A = ℕ} room 0) (omega arith)))
