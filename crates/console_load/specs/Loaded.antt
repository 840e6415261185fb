-- A load whose text has come: what is said of it, and the memory that it leaves.
use Rattle.std.specs.Prelude.{ℕ, ◌≡◌, List, [], ltb}
use Rattle.rules.specs.Basics.{pick, last}
use Rattle.rules.specs.Load.{load, load_answer}
use Rattle.registry_load.specs.Words.{leaves_load}
use Rattle.host_answers.specs.Told.{status_of}
use Rattle.console_answer.specs.Pages.{text_room}
use Rattle.console_answer.specs.declared.Page.{Page}
use Rattle.console_names.specs.declared.Values.TheVariants.{None}
use Rattle.console_show.specs.Spoken.{spoken_on}
use Rattle.console_line.specs.Lines.{line_end}

-- The status, which says all; a text longer than the room for it is bad.
abbrev pub load_status : (domain length : ℕ) → List ℕ → ℕ
load_status domain length text = pick (ltb text_room length) last (status_of (load_answer (load domain text)))

abbrev pub load_left : List ℕ → (domain length : ℕ) → List ℕ → List ℕ
load_left m domain length text = pick (ltb text_room length) m (leaves_load m (load domain text))

pub record Loaded : Type 0 where
  pub page : Page
  pub memory : List ℕ

-- load DOMAIN LENGTH, and the text.
unfoldable pub load_ended : Page → List ℕ → (domain length : ℕ) → List ℕ → Loaded
load_ended p m domain length text = record {
  page = line_end (spoken_on p None (load_status domain length text) []);
  memory = load_left m domain length text;
}

-- A page and the words as a load leaves them.
abbrev pub Ends : Loaded → Page → List ℕ → Type 0
Ends l page memory = (page ≡ l.page) × (memory ≡ l.memory)
