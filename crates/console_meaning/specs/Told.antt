-- What is told in seven words, and spoken from them, is the answer.
use Rattle.std.specs.Prelude.{ℕ, ◌≤◌, ◌≡◌, refl, List, [], ◌∷◌, length}
use Rattle.std.proofs.Common.{arith, sym, ap, ◌∙◌, ne_eqb}
use Rattle.rules.specs.Basics.{last}
use Rattle.rules.specs.Refusals.{number, number_within}
use Rattle.rules.specs.Outcomes.{Answer, Refused, Accepted, Outcome, tells, refusing, accepting, writes, stores, adds, removes, answer_of}
use Rattle.rules.specs.Steps.{Op, step}
use Rattle.memory.specs.View.{view}
use Rattle.host_answers.specs.Told.{status_of, words_of}
use Rattle.host.specs.Tells.{answer}
use Rattle.console_answer.specs.declared.Page.{Page}
use Rattle.console_answer.specs.Answers.{told_in}
use Rattle.console_show.specs.Spoken.{spoken_on, line_on}
use Rattle.console_show.specs.Shown.{values_of}
use Rattle.console_show.specs.Told.{told_back}
use Rattle.console_names.specs.declared.Values.{Values}
use Rattle.console_names.specs.Table.{Stated, Told}
use Rattle.console_line.specs.Lines.{line_end, untold, asked_line}
use Rattle.console_meaning.specs.Values.{saying, Brief, Silent}

-- Six numbers at most are read back from the words; a refusal without numbers leaves these, and they tell nothing.
pub read_back : (a : Answer) → length (values_of a) ≤ 6 → told_in (words_of a untold) ≡ values_of a
unfolding words_of
read_back (Refused n []) h = refl
read_back (Refused n (v ∷ vs)) h = told_back (v ∷ vs) untold (omega arith)
read_back (Accepted vs) h = told_back vs untold (omega arith)

-- the line of an outcome's status and numbers is that of its answer
spoken : (p : Page) (v : Values) (u : Outcome) → spoken_on p v (status_of (answer_of u)) (saying u) ≡ line_on p v (answer_of u)
unfolding spoken_on status_of
spoken p v (tells (refusing x vs)) =
    let h = number_within x in
    let b = ne_eqb (number x) last (λ e. omega arith) in
    let z = ne_eqb (number x) 0 (λ e. omega arith) in
    rw (b, z)
spoken p v (tells (accepting vs)) = refl
spoken p v (writes at l vs) = refl
spoken p v (stores q vs) = refl
spoken p v (adds q vs) = refl
spoken p v (removes id vs) = refl

module _ (p : Page) (m : List ℕ) (v : Values) (o : Op) where
  -- An operation that tells six numbers at most: the line says the rules' answer.
  pub said : Brief o → asked_line p m v (Told o) ≡ line_end (line_on p v (answer m o))
  said h = ap line_end (ap (spoken_on p v (status_of (answer m o))) (read_back (answer m o) (h (view m))) ∙ spoken p v (step (view m) o))

  -- So does an operation that answers none, with nothing told.
  pub silent : Silent o → asked_line p m v (Stated o) ≡ line_end (line_on p v (answer m o))
  silent h = ap line_end (ap (spoken_on p v (status_of (answer m o))) (sym (h (view m))) ∙ spoken p v (step (view m) o))
