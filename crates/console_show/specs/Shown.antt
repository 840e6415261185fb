-- The line of `show ID`: PARENT PHASE RETIRED GENERATION REVISION PAYLOAD ROOT QUEUED KEY REALM.
use Rattle.std.specs.Prelude.{ℕ, ◌≡◌, List, [], ◌∷◌}
use Rattle.rules.specs.Outcomes.{Answer, Refused, Accepted}
use Rattle.rules.specs.Queries.{Field, Parent, Anchor, PhaseOf, RetiredMark, Generation, Revision, Payload, RootOf}
use Rattle.rules.specs.Steps.{Ask}
use Rattle.rules.specs.Questions.{AskPlugin}
use Rattle.host_answers.specs.Told.{status_of}
use Rattle.host.specs.Tells.{answer}
use Rattle.console_answer.specs.Pages.{put_on, number_on, numbers_on}
use Rattle.console_answer.specs.declared.Page.{Page}
use Rattle.console_answer.specs.Answers.{ok_word, answer_on, or_none_on}

-- The numbers of an answer, of either kind.
abbrev pub values_of : Answer → List ℕ
values_of (Refused n l) = l
values_of (Accepted l) = l

-- What a memory's words answer to a question about a plugin.
abbrev pub asked : List ℕ → ℕ → Field → Answer
asked m id f = answer m (Ask (AskPlugin f id))

-- The id is a plugin's: a question about it is accepted.
abbrev pub Registered : List ℕ → ℕ → Type 0
Registered m id = status_of (asked m id Parent) ≡ 0

-- A field's numbers, each behind a space.
unfoldable pub field_on : Page → List ℕ → ℕ → Field → Page
field_on p m id f = numbers_on p (values_of (asked m id f))

-- PHASE RETIRED GENERATION REVISION PAYLOAD
unfoldable pub life_on : Page → List ℕ → ℕ → Page
life_on p m id = field_on (field_on (field_on (field_on (field_on p m id PhaseOf) m id RetiredMark) m id Generation) m id Revision) m id Payload

-- The root's number, and behind it what is queued or `none`.
abbrev pub queued_on : Page → List ℕ → Page
queued_on p [] = p
queued_on p (n ∷ l) = or_none_on (number_on p n) l

-- ROOT QUEUED
unfoldable pub root_on : Page → List ℕ → ℕ → Page
root_on p m id = queued_on p (values_of (asked m id RootOf))

-- All fields behind `ok`, or the refusal.
abbrev pub shown_as : Page → List ℕ → ℕ → Answer → Page
shown_as p m id (Accepted l) = field_on (root_on (life_on (or_none_on (put_on p ok_word) l) m id) m id) m id Anchor
shown_as p m id (Refused n l) = answer_on p (Refused n l)

unfoldable pub shown_on : Page → List ℕ → ℕ → Page
shown_on p m id = shown_as p m id (asked m id Parent)
