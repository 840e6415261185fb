-- The line of what an operation answered.
use Rattle.std.specs.Prelude.{ℕ, List, [], ◌∷◌, eqb}
use Rattle.rules.specs.Basics.{pick, last}
use Rattle.rules.specs.Outcomes.{Answer}
use Rattle.console_names.specs.declared.Values.{Values}
use Rattle.console_names.specs.declared.Values.TheVariants.{None, Numbers, NumbersOrNone, YesOrNo}
use Rattle.console_answer.specs.Pages.{put_on}
use Rattle.console_answer.specs.declared.Page.{Page}
use Rattle.console_answer.specs.Answers.{bad_word, answer_in, answer_on, answer_or_none_on, answer_yes_no_on}

-- The status of a line that is no operation; no refusal has this number.
abbrev pub bad : ℕ
bad = last

-- The line of an answer, by the values that an acceptance has.
abbrev pub line_on : Page → Values → Answer → Page
line_on p None a = answer_on p a
line_on p Numbers a = answer_on p a
line_on p NumbersOrNone a = answer_or_none_on p a
line_on p YesOrNo a = answer_yes_no_on p a

unfoldable pub spoken_on : Page → Values → ℕ → List ℕ → Page
spoken_on p v status l = pick (eqb status bad) (put_on p bad_word) (line_on p v (answer_in status l))

-- Words in which nothing has been told.
abbrev pub untold : List ℕ
untold = 0 ∷ 0 ∷ 0 ∷ 0 ∷ 0 ∷ 0 ∷ 0 ∷ []
