-- What stands behind the word `check`: set ID.. order ID..
use Rattle.std.specs.Prelude.{ℕ, ◌≡◌, List, eqb, length, Option, Some, None, MatchOption}
use Rattle.rules.specs.Basics.{pick}
use Rattle.rules.specs.Steps.{Ask}
use Rattle.rules.specs.Questions.{CheckOrder}
use Rattle.text_form.specs.Bytes.{bytes}
use Rattle.console_words.specs.Runs.{Numbers}
use Rattle.console_words.specs.Fronts.{Front}
use Rattle.console_definition.specs.Definitions.{list_behind, next_list}
use Rattle.console_names.specs.Table.{Asked, Bad, Told}
use Rattle.console_order.specs.declared.Sets.{Sets}

-- Two lists with nothing behind them.
pub record TwoLists : Type 0 where
  pub set : List ℕ
  pub order : List ℕ

abbrev pub two : ℕ → Option Numbers → Option Numbers → Option TwoLists
two size (Some set) (Some order) = pick (eqb order.stop size) (Some (record { set = set.found; order = order.found })) None
two size (Some set) None = None
two size None order = None

abbrev pub set_in : List ℕ → ℕ → Option Numbers
set_in line from = list_behind line from (bytes "set")

unfoldable pub sets_in : List ℕ → ℕ → Option TwoLists
sets_in line from = two (length line) (set_in line from) (next_list line (bytes "order") (set_in line from))

-- What is asked for; a line without them is bad.
abbrev pub checking : Option TwoLists → Asked
checking None = Bad
checking (Some l) = Told (Ask (CheckOrder l.set l.order))

-- Each of two lists that were found at the front of its array.
pub record Fronts (line : List ℕ) (from : ℕ) (a a' b b' : List ℕ) (r : Sets) : Type 0 where
  pub lists : TwoLists
  pub is : sets_in line from ≡ Some lists
  pub set : Front lists.set r.set a a'
  pub order : Front lists.order r.order b b'

abbrev pub Two : List ℕ → ℕ → (a a' b b' : List ℕ) → Option Sets → Type 0
Two line from a a' b b' r = MatchOption r (sets_in line from ≡ None) (λ n. Fronts line from a a' b b' n)
