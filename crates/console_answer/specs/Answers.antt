-- The line of an answer: `ok` and the values, or `no` and document 01's refusal number.
use Rattle.std.specs.Prelude.{ℕ, Bool, false, List, [], ◌∷◌, eqb, get_or, take, drop}
use Rattle.rules.specs.Basics.{pick}
use Rattle.rules.specs.Outcomes.{Answer, Refused, Accepted}
use Rattle.text_form.specs.Bytes.{bytes}
use Rattle.console_answer.specs.Pages.{put_on, number_on, numbers_on}
use Rattle.console_answer.specs.declared.Page.{Page}

abbrev pub ok_word : List ℕ
ok_word = bytes "ok"

abbrev pub no_word : List ℕ
no_word = bytes "no"

abbrev pub yes_word : List ℕ
yes_word = bytes "yes"

abbrev pub none_word : List ℕ
none_word = bytes "none"

-- What is said to a line that is no operation.
abbrev pub bad_word : List ℕ
bad_word = bytes "bad"

-- A word behind a space.
abbrev pub word_on : Page → List ℕ → Page
word_on p w = put_on p (32 ∷ w)

-- The numbers that a host is told: their count comes first, and no more than are there.
abbrev pub told_in : List ℕ → List ℕ
told_in out = take (get_or out 0 0) (drop 1 out)

-- The answer of a status, 0 or the refusal's number, with the numbers told.
abbrev pub answer_in : ℕ → List ℕ → Answer
answer_in status l = pick (eqb status 0) (Accepted l) (Refused status l)

unfoldable pub refusal_on : Page → ℕ → Page
refusal_on p n = number_on (put_on p no_word) n

abbrev pub answer_on : Page → Answer → Page
answer_on p (Accepted l) = numbers_on (put_on p ok_word) l
answer_on p (Refused n l) = numbers_on (refusal_on p n) l

-- What is absent is the word `none`.
abbrev pub or_none_on : Page → List ℕ → Page
or_none_on p [] = word_on p none_word
or_none_on p (n ∷ l) = numbers_on p (n ∷ l)

abbrev pub answer_or_none_on : Page → Answer → Page
answer_or_none_on p (Accepted l) = or_none_on (put_on p ok_word) l
answer_or_none_on p (Refused n l) = answer_on p (Refused n l)

-- Yes is the number 1.
abbrev pub says_yes : List ℕ → Bool
says_yes [] = false
says_yes (n ∷ l) = eqb n 1

-- A yes or no is the word `yes` or `no`.
abbrev pub answer_yes_no_on : Page → Answer → Page
answer_yes_no_on p (Accepted l) = word_on (put_on p ok_word) (pick (says_yes l) yes_word no_word)
answer_yes_no_on p (Refused n l) = answer_on p (Refused n l)
