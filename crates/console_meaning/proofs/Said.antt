-- What a line of the console says is what the rules answer.
use Rattle.std.specs.Prelude.{ℕ, ◌≡◌, refl, List}
use Rattle.std.proofs.Common.{subst}
use Rattle.rules.specs.Steps.{Write}
use Rattle.rules.specs.Questions.{Listed}
use Rattle.host.specs.Tells.{answer}
use Rattle.console_answer.specs.Pages.{put_on, numbers_on}
use Rattle.console_answer.specs.declared.Page.{Page}
use Rattle.console_answer.specs.Answers.{ok_word}
use Rattle.console_names.specs.declared.Count.{Count}
use Rattle.console_names.specs.declared.Values.{Values}
use Rattle.console_names.specs.declared.Values.TheVariants.{None, Numbers, YesOrNo}
use Rattle.console_names.specs.declared.Held.{Held}
use Rattle.console_names.specs.declared.Kind.TheVariants.{Registry}
use Rattle.console_names.specs.declared.Request.{Request}
use Rattle.console_names.specs.declared.Row.{Row}
use Rattle.console_names.specs.declared.Row.TheVariants.{Takes}
use Rattle.console_names.specs.Table.{Asked, Bad, Open, Stated, Told, first, second, row_at, asked, asked_by, asked_at}
use Rattle.console_definition.specs.Definitions.{definition_in}
use Rattle.console_show.specs.Spoken.{line_on, spoken_on}
use Rattle.console_operations.specs.Asked.{which_of}
use Rattle.console_register.specs.Registrations.{registration}
use Rattle.console_order.specs.Checks.{sets_in, checking}
use Rattle.console_line.specs.Lines.{line_end, bad, listed, asked_line, numbers_line, register_line, check_line}
use Rattle.console_meaning.specs.Values.{listed_brief}
use Rattle.console_meaning.specs.Told.{said, silent}
use Rattle.console_meaning.specs.Said.{Plain, plain_asked, plain_check, plain_registration, said_of, values_by}

open_said : (p : Page) (m : List ℕ) (domain first : ℕ) → asked_line p m None (Open domain first) ≡ line_end (put_on p ok_word)
unfolding spoken_on numbers_on
open_said p m domain first = refl

bad_said : (p : Page) (m : List ℕ) (v : Values) → asked_line p m v Bad ≡ bad p
unfolding spoken_on
bad_said p m v = refl

-- Where what is asked for is plain, its line says the rules' answer.
pub plainly : (p : Page) (m : List ℕ) (v : Values) (a : Asked) → Plain v a → asked_line p m v a ≡ said_of p m v a
plainly p m v Bad h = bad_said p m v
plainly p m v (Open domain first) h = rw h (open_said p m domain first)
plainly p m v (Stated o) h = silent p m v o h
plainly p m v (Told o) h = said p m v o h

module _ (p : Page) (m : List ℕ) where
  -- A line of numbers says the rules' answer, with the row's values;
  pub numbers_said : (buffer : List ℕ) (place : ℕ) (count : Count) (r : Request) (v : Values) (l : List ℕ) → row_at place ≡ Takes count (Registry r v)
      → (numbers_line p m buffer place (Registry r v) l).page ≡ said_of p m v (asked_at place l)
  numbers_said buffer place count r v l e =
      rw e (plainly p m v (asked r l) (subst (λ (w : Row). Plain (values_by w) (asked_by w l)) e (plain_asked place l)))

  -- so does a registration's line,
  pub register_said : (buffer line : List ℕ) (from : ℕ) → (register_line p m buffer line from).page ≡ said_of p m Numbers (registration (definition_in line from))
  register_said buffer line from = plainly p m Numbers (registration (definition_in line from)) (plain_registration Numbers (definition_in line from))

  -- a check's line,
  pub check_said : (buffer line : List ℕ) (from : ℕ) → (check_line p m buffer line from).page ≡ said_of p m YesOrNo (checking (sets_in line from))
  check_said buffer line from = plainly p m YesOrNo (checking (sets_in line from)) (plain_check YesOrNo (sets_in line from))

  -- and the line of a listing.
  pub listed_said : (buffer : List ℕ) (held : Held) (l : List ℕ)
      → (listed p m buffer held l).page ≡ line_end (line_on p Numbers (answer m (Write (Listed (which_of held) (first l) (second l)) buffer)))
  listed_said buffer held l = said p m Numbers (Write (Listed (which_of held) (first l) (second l)) buffer) (listed_brief _ _ _ _)
