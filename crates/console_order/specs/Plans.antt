-- What the line of `plan SIZE ID..` says.
use Rattle.std.specs.Prelude.{ℕ, List, eqb, get_or, take, replicate}
use Rattle.rules.specs.Basics.{pick}
use Rattle.rules.specs.Limits.{max_plugins}
use Rattle.rules.specs.Steps.{lent_after_step, Write}
use Rattle.rules.specs.Questions.{Order}
use Rattle.memory.specs.View.{view}
use Rattle.host_answers.specs.Told.{status_of, words_of}
use Rattle.host.specs.Tells.{answer}
use Rattle.console_answer.specs.Pages.{put_on, numbers_on}
use Rattle.console_answer.specs.declared.Page.{Page}
use Rattle.console_answer.specs.Answers.{ok_word, told_in}
use Rattle.console_names.specs.declared.Values.TheVariants.{NumbersOrNone}
use Rattle.console_show.specs.Spoken.{spoken_on, untold}

-- A count is told of an order alone: then its ids stand in what was lent, and they are said.
unfoldable pub planned_on : Page → List ℕ → (set lent : List ℕ) → Page
planned_on p m set lent =
    let o = Write (Order set) lent in
    let told = words_of (answer m o) untold in
    pick (eqb (get_or told 0 0) 0) (spoken_on p NumbersOrNone (status_of (answer m o)) (told_in told))
    (numbers_on (put_on p ok_word) (take (get_or told 1 0) (lent_after_step (view m) o)))

-- So many ids are lent, or 32.
abbrev pub lent_ids : ℕ → List ℕ
lent_ids size = take size (replicate max_plugins 0)
