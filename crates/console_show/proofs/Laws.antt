-- What a line comes to, by the places of the buffer. Assumes nothing.
use Prim.Native.Nat.{ℕ, ◌-◌, ◌≤◌}
use mathlib.Core.Path.{◌≡◌, ◌∙◌}
use mathlib.Core.List.{List}
use native.Mathlib.Omega.{arith}
use Rattle.console_answer.specs.Pages.{put_on, numbers_on}
use Rattle.console_answer.specs.declared.Page.{Page}
use Rattle.console_answer.specs.Answers.{ok_word}
use Rattle.console_show.specs.Buffered.{between}

module _ (from to : ℕ) (l : List ℕ) (p q : Page) (e : q ≡ put_on p ok_word) where
  pub none_between : to ≤ from → q ≡ numbers_on (put_on p ok_word) (between from to l)
  unfolding numbers_on
  none_between h =
      let z : to - from ≡ 0 = omega arith in
      rw z e

  pub some_between : (r : Page) (w : List ℕ) → w ≡ between from to l → r ≡ numbers_on q w → r ≡ numbers_on (put_on p ok_word) (between from to l)
  some_between r w d f = f ∙ rw (e, d)
