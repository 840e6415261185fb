-- The line that awaits a text: `load` with two numbers, read by the parts by which every line is read.
use Rattle.std.specs.Prelude.{ℕ, ◌||◌, List, eqb, ltb, length, get_or, take, Option, Some, None}
use Rattle.rules.specs.Basics.{pick}
use Rattle.console_words.specs.Bytes.{longest}
use Rattle.console_words.specs.Words.{next_word, bytes_of}
use Rattle.console_names.specs.declared.Count.{Count}
use Rattle.console_names.specs.declared.Kind.{Kind}
use Rattle.console_names.specs.declared.Kind.TheVariants as kind
use Rattle.console_names.specs.declared.Row.{Row}
use Rattle.console_names.specs.declared.Row.TheVariants as row
use Rattle.console_names.specs.Names.{place_among}
use Rattle.console_names.specs.Behind.{numbers_behind}
use Rattle.console_names.specs.Table.{takes, first, second, names, row_at}
use Rattle.console_line.specs.Console.{hash}
use Rattle.console_load.specs.declared.Awaited.{Awaited}

abbrev pub text : (domain length : ℕ) → Awaited
text domain length = record { domain = domain; length = length }

-- DOMAIN LENGTH, if as many numbers stand there as are due.
abbrev pub as_many : Count → Option (List ℕ) → Option Awaited
as_many count None = None
as_many count (Some l) = pick (takes count (length l)) (Some (text (first l) (second l))) None

-- Of what is done with numbers, a load alone awaits a text.
abbrev pub awaited_from : Kind → Count → List ℕ → ℕ → Option Awaited
awaited_from kind.Show count line from = None
awaited_from kind.Buffer count line from = None
awaited_from (kind.Lists held) count line from = None
awaited_from (kind.Registry r v) count line from = None
awaited_from kind.Text count line from = None
awaited_from kind.Load count line from = as_many count (numbers_behind line from)
awaited_from kind.Plan count line from = None

abbrev pub awaited_by : Row → List ℕ → ℕ → Option Awaited
awaited_by row.Slot line from = None
awaited_by row.Register line from = None
awaited_by row.Check line from = None
awaited_by (row.Takes count kind) line from = awaited_from kind count line from
awaited_by row.Unknown line from = None

-- The first word is the operation's name.
unfoldable pub awaited_in : List ℕ → Option Awaited
awaited_in line =
    let w = next_word line 0 in
    awaited_by (row_at (place_among (bytes_of line w) names)) line w.stop

-- A line is at its end, of which so many bytes came. One that is passed over, or is too long, awaits nothing.
unfoldable pub awaited : List ℕ → ℕ → Option Awaited
awaited line filled =
    pick (eqb filled 0 || eqb (get_or line 0 0) hash) None
    (pick (ltb longest filled) None
    (awaited_in (take filled line)))
