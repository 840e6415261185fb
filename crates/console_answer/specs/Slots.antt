-- A slot's line: DOMAIN PARENT GENERATION STATE.
use Rattle.std.specs.Prelude.{ℕ, List, Option, Some, None}
use Rattle.rules.specs.Outcomes.{Answer, Refused, Accepted}
use Rattle.rules.specs.Retirement.{Identity}
use Rattle.rules.specs.Slot.{Slot, Decided, Decision, Pending, Assigned, Failed, Cancelled}
use Rattle.text_form.specs.Bytes.{bytes}
use Rattle.console_answer.specs.Pages.{put_on, number_on}
use Rattle.console_answer.specs.declared.Page.{Page}
use Rattle.console_answer.specs.Answers.{ok_word, none_word, word_on, answer_on}

abbrev pub pending_word : List ℕ
pending_word = bytes "pending"

abbrev pub assigned_word : List ℕ
assigned_word = bytes "assigned"

abbrev pub failed_word : List ℕ
failed_word = bytes "failed"

abbrev pub cancelled_word : List ℕ
cancelled_word = bytes "cancelled"

-- GENERATION is a number or `none`.
abbrev pub generation_on : Page → Option ℕ → Page
generation_on p (Some n) = number_on p n
generation_on p None = word_on p none_word

unfoldable pub identity_on : Page → Identity → Page
identity_on p c = number_on (number_on (number_on (word_on p assigned_word) c.domain) c.parent) c.id

-- STATE
abbrev pub decision_on : Page → Decision → Page
decision_on p Pending = word_on p pending_word
decision_on p (Assigned c) = identity_on p c
decision_on p Failed = word_on p failed_word
decision_on p Cancelled = word_on p cancelled_word

unfoldable pub slot_on : Page → Slot → Page
slot_on p s = decision_on (generation_on (number_on (number_on p s.domain) s.parent) s.generation) s.decision

-- The slot where the decision was taken, and else the refusal's number.
abbrev pub decided_as : Page → Slot → Answer → Page
decided_as p s (Accepted l) = slot_on (put_on p ok_word) s
decided_as p s (Refused n l) = answer_on p (Refused n l)

abbrev pub decided_on : Page → Decided → Page
decided_on p d = decided_as p d.slot d.answer
