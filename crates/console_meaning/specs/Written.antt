-- What the line `write SIZE` says: the registry's text, or that the room is too small.
use Rattle.std.specs.Prelude.{ℕ, ◌+◌, min, ◌≤◌, ◌<◌, ◌≡◌, List, [], ◌∷◌, drop, replicate}
use Rattle.std.proofs.Common.{ap, ◌∙◌, length-take, lt-ltb, le-ltb}
use Rattle.std.proofs.Math.ListN.{length}
use Rattle.std.proofs.lemmas.List.{length-replicate}
use Rattle.std.proofs.Math.Seq.{take-append_seam}
use Rattle.rules.specs.Holds.{Registry}
use Rattle.rules.specs.Refusals.{ShortBuffer}
use Rattle.rules.specs.Outcomes.{refuses, writes, checked, lent_after}
use Rattle.rules.specs.Text.{text_of, write_text}
use Rattle.memory.specs.View.{view}
use Rattle.host_answers.specs.Told.{status_of, words_of}
use Rattle.console_answer.specs.Pages.{text_room, put_on, number_on, numbers_on}
use Rattle.console_answer.specs.declared.Page.{Page}
use Rattle.console_answer.specs.Answers.{ok_word, refusal_on}
use Rattle.console_show.specs.Spoken.{spoken_on}
use Rattle.console_line.specs.Lines.{line_end, text_on, lent_bytes}

-- The rule, where the text fits the lent bytes and where it does not.
module _ (r : Registry) (lent : List ℕ) where
  fitting : length (text_of r) ≤ length lent → write_text r lent ≡ writes 0 (text_of r) (length (text_of r) ∷ [])
  unfolding write_text checked
  fitting h = rw (le-ltb (length lent) (length (text_of r)) h)

  short : length lent < length (text_of r) → write_text r lent ≡ refuses ShortBuffer []
  unfolding write_text checked
  short h = rw (lt-ltb (length lent) (length (text_of r)) h)

module _ (p : Page) (m lent : List ℕ) where
  -- ok LENGTH, and behind the line the text.
  pub text_said : length (text_of (view m)) ≤ length lent
      → text_on p m lent ≡ put_on (line_end (number_on (put_on p ok_word) (length (text_of (view m))))) (text_of (view m))
  unfolding text_on status_of words_of spoken_on numbers_on lent_after
  text_said h =
      let t = text_of (view m) in
      rw (fitting (view m) lent h) (ap (put_on (line_end (number_on (put_on p ok_word) (length t)))) (take-append_seam t (drop (0 + length t) lent)))

  -- no 23, and nothing behind it.
  pub text_short : length lent < length (text_of (view m)) → text_on p m lent ≡ line_end (refusal_on p 23)
  unfolding text_on status_of words_of spoken_on numbers_on lent_after
  text_short h = rw (short (view m) lent h)

-- As many bytes are lent as the line says, and 131,072 at most.
pub lent_length : (size : ℕ) → length (lent_bytes size) ≡ min size text_room
lent_length size = length-take size (replicate text_room 0) ∙ ap (min size) (length-replicate {A = ℕ} text_room 0)

-- write SIZE
module _ (p : Page) (m : List ℕ) (size : ℕ) where
  pub write_said : length (text_of (view m)) ≤ min size text_room
      → text_on p m (lent_bytes size) ≡ put_on (line_end (number_on (put_on p ok_word) (length (text_of (view m))))) (text_of (view m))
  write_said h = text_said p m (lent_bytes size) (rw (lent_length size) h)

  pub write_short : min size text_room < length (text_of (view m)) → text_on p m (lent_bytes size) ≡ line_end (refusal_on p 23)
  write_short h = text_short p m (lent_bytes size) (rw (lent_length size) h)
