-- The line of a registration, behind its name: PARENT KEY REALM PAYLOAD EDITION DEFAULT realms N.. deps N.. provs N..
use Rattle.std.specs.Prelude.{ℕ, Bool, ◌&&◌, List, ◌∷◌, eqb, length, Option, Some, None, option_map, option_and_then, Result, Ok, Err, ok_or}
use Rattle.std.specs.Option.{is_some, unwrap_or}
use Rattle.std.specs.Result.{result_ok}
use Rattle.rules.specs.Basics.{pick, same_numbers}
use Rattle.rules.specs.Holds.{port}
use Rattle.rules.specs.Registration.{Definition}
use Rattle.text_form.specs.Bytes.{bytes}
use Rattle.console_words.specs.Words.{next_word, bytes_of}
use Rattle.console_words.specs.Runs.{Numbers, number_at, run_from}
use Rattle.console_definition.specs.declared.Under.{Under}
use Rattle.console_definition.specs.declared.Number.{Number}
use Rattle.console_definition.specs.declared.Head.{Head}

-- The first word at or after a place, and the place behind it.
abbrev pub word_from : List ℕ → ℕ → List ℕ
word_from line from = bytes_of line (next_word line from)

abbrev pub past : List ℕ → ℕ → ℕ
past line from = (next_word line from).stop

-- PARENT is an id or `none`.
unfoldable pub parent_in : List ℕ → ℕ → Option (Option ℕ)
parent_in line from = pick (same_numbers (word_from line from) (bytes "none")) (Some None) (option_map Some (number_at line from))

abbrev pub under : ℕ → Option ℕ → Under
under stop parent = record { parent = parent; stop = stop }

-- Of another word, the place behind it.
abbrev pub under_in : List ℕ → ℕ → Result Under ℕ
under_in line from = ok_or (option_map (under (past line from)) (parent_in line from)) (past line from)

-- The next word as a number, if it is one, and the place behind it.
unfoldable pub number_in : List ℕ → ℕ → Number
number_in line from = record { value = number_at line from; stop = past line from }

-- A word that is no number is 0.
abbrev pub headed : Number → Number → Number → Number → Number → Head
headed key realm payload edition default = record {
  key = unwrap_or key.value 0;
  realm = unwrap_or realm.value 0;
  payload = unwrap_or payload.value 0;
  edition = unwrap_or edition.value 0;
  default = unwrap_or default.value 0;
  stop = default.stop;
}

abbrev pub five_numbers : Number → Number → Number → Number → Number → Bool
five_numbers key realm payload edition default =
    is_some key.value && is_some realm.value && is_some payload.value && is_some edition.value && is_some default.value

-- KEY REALM PAYLOAD EDITION DEFAULT are five numbers; where one is none, all five are told as they were read.
unfoldable pub head_in : List ℕ → ℕ → Result Head Head
head_in line from =
    let key = number_in line from in
    let realm = number_in line key.stop in
    let payload = number_in line realm.stop in
    let edition = number_in line payload.stop in
    let default = number_in line edition.stop in
    let head = headed key realm payload edition default in
    pick (five_numbers key realm payload edition default) (Ok head) (Err head)

-- The numbers of a list, and where they stop, if its word comes next.
unfoldable pub list_behind : List ℕ → ℕ → List ℕ → Option Numbers
list_behind line from name = pick (same_numbers (word_from line from) name) (Some (run_from 2048 line (past line from))) None

-- The same where another list stops, if that is there.
abbrev pub next_list : List ℕ → List ℕ → Option Numbers → Option Numbers
next_list line name before = option_and_then (λ (l : Numbers). list_behind line l.stop name) before

-- Three lists with nothing behind them.
pub record ThreeLists : Type 0 where
  pub realms : List ℕ
  pub deps : List ℕ
  pub provs : List ℕ

abbrev pub three : ℕ → Option Numbers → Option Numbers → Option Numbers → Option ThreeLists
three size (Some realms) (Some deps) (Some provs) =
    pick (eqb provs.stop size) (Some (record { realms = realms.found; deps = deps.found; provs = provs.found })) None
three size (Some realms) (Some deps) None = None
three size (Some realms) None provs = None
three size None deps provs = None

abbrev pub realms_in : List ℕ → ℕ → Option Numbers
realms_in line from = list_behind line from (bytes "realms")

abbrev pub deps_in : List ℕ → ℕ → Option Numbers
deps_in line from = next_list line (bytes "deps") (realms_in line from)

abbrev pub provs_in : List ℕ → ℕ → Option Numbers
provs_in line from = next_list line (bytes "provs") (deps_in line from)

unfoldable pub lists_in : List ℕ → ℕ → Option ThreeLists
lists_in line from = three (length line) (realms_in line from) (deps_in line from) (provs_in line from)

-- What the registration is given: its realm list is edition, default and rows.
abbrev pub given : Option ℕ → Head → ThreeLists → Definition
given parent h l = record {
  parent = parent;
  anchor = port h.key h.realm;
  realms = h.edition ∷ h.default ∷ l.realms;
  dependencies = l.deps;
  provisions = l.provs;
  payload = h.payload;
}

-- The registration that stands in a line from a place on; none where the line is no registration.
unfoldable pub definition_in : List ℕ → ℕ → Option Definition
definition_in line from =
    option_and_then
    (λ (u : Under). option_and_then
    (λ (h : Head). option_map (given u.parent h) (lists_in line h.stop))
    (result_ok (head_in line u.stop)))
    (result_ok (under_in line from))
