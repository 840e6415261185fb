-- Document 02 [5]'s editions, computed: what keys resolve to, a plugin's own edition when it inherits, 26, and the text's two lines.
use Rattle.std.specs.Prelude.{ℕ, ◌^◌, ◌-◌, ◌≡◌, refl, List, [], ◌∷◌, ◌++◌, Some, None}
use Prim.Native.String.{String}
use Rattle.rules.specs.Holds.{port, Registry, lookup, count, provider, rows_in_use}
use Rattle.rules.specs.Outcomes.{Answer, Refused, Accepted, after, lent_after, checked, found}
use Rattle.rules.specs.Ports.{bad_realms, resolve, realm_list, bad_edition, resolve_key}
use Rattle.rules.specs.Dependencies.{dependency_list}
use Rattle.rules.specs.Registration.{dependencies_of, new_plugin, register}
use Rattle.rules.specs.Lists.{listing, list, Provisions}
use Rattle.rules.specs.Queries.{EditionOf, ask_plugin}
use Rattle.rules.specs.Questions.{ResolveKey, AskPlugin, Listed}
use Rattle.rules.specs.Steps.{Op, Ask, Write, run, lent_after_step}
use Rattle.rules.specs.Examples.{in_second, registers_by, fresh, answers_to, answers_from, listed}
use Rattle.rules.specs.Text.{insert, by_id, said, text_of, read_text}
use Rattle.rules.specs.TextExamples.{shown, built}
use Rattle.rules.specs.Conditions.{given_within, none_left_after, loadable}
use Rattle.rules.specs.Load.{load, load_answer}
use Rattle.rules.specs.Reached.Transcripts.{keys}
use Rattle.text_form.specs.Digits.{decimal_of, digits_in}
use Rattle.text_form.specs.Words.{number_of, value_from}
use Rattle.text_form.specs.Forms.{expect}
use Rattle.text_form.specs.Numbers.{read_number, up_to}

-- key 2 is in realm 5
abbrev rows : List ℕ
rows = 2 ∷ 5 ∷ []

-- what keys 2 and 3 resolve to by a list
abbrev resolved : List ℕ → List Answer
resolved realms = answers_to (Ask (ResolveKey realms 2) ∷ Ask (ResolveKey realms 3) ∷ [])

-- refused by a lookup, and by a registration with too many keys
abbrev refused_by : List ℕ → List Answer
refused_by realms = answers_to (Ask (ResolveKey realms 2) ∷ registers_by realms None (port 100 0) (keys 17 1) [] ∷ [])

-- a parent (1) of default 7 with dependencies (2,5), (3,7), and its child of this list with dependency key 4
abbrev family : List ℕ → List Op
family realms =
    registers_by (in_second 7 rows) None (port 100 0) (2 ∷ 3 ∷ []) []
    ∷ registers_by realms (Some 1) (port 101 0) (4 ∷ []) []
    ∷ []

abbrev ten : List ℕ
ten = 0 ∷ 0 ∷ 0 ∷ 0 ∷ 0 ∷ 0 ∷ 0 ∷ 0 ∷ 0 ∷ 0 ∷ []

-- [1]'s example by this list
abbrev example : List ℕ → Registry
example realms = built 0 (registers_by realms None (port 9 0) [] (2 ∷ 4 ∷ []) ∷ [])

abbrev text : String → String → List ℕ
text edition provisions =
    shown "domain=7 first=0 next=1 plugins=1 id=0 parent=none phase=0 retired=0 generation=0 revision=0 payload=40 root=0 queued=none anchor=9,0"
    ++ shown edition
    ++ shown "realms=1 realm=2,5 deps=0 provs=2"
    ++ shown provisions

-- without the two lines
abbrev older : List ℕ
older = shown "domain=7 first=0 next=1 plugins=1 id=0 parent=none phase=0 retired=0 generation=0 revision=0 payload=40 root=0 queued=none anchor=9,0 realms=1 realm=2,5 deps=0 provs=2 prov=2,5,none prov=4,0,none"

pub record Editions : Type 0 where
  -- absent keys get realm 0 in edition 1, whatever default is handed in, and the default in edition 2
  pub first_edition_lem : resolved (1 ∷ 7 ∷ rows) ≡ Accepted (2 ∷ 5 ∷ []) ∷ Accepted (3 ∷ 0 ∷ []) ∷ []
  pub second_edition_lem : resolved (2 ∷ 7 ∷ rows) ≡ Accepted (2 ∷ 5 ∷ []) ∷ Accepted (3 ∷ 7 ∷ []) ∷ []
  -- 26 before 4, and before 5
  pub edition_0 : refused_by (0 ∷ 7 ∷ 2 ∷ []) ≡ Refused 26 [] ∷ Refused 26 [] ∷ []
  pub edition_3 : refused_by (3 ∷ 7 ∷ 2 ∷ []) ≡ Refused 26 [] ∷ Refused 26 [] ∷ []
  pub edition_last : refused_by ((2 ^ 64 - 1) ∷ 7 ∷ 2 ∷ []) ≡ Refused 26 [] ∷ Refused 26 [] ∷ []
  pub no_edition : refused_by [] ≡ Refused 26 [] ∷ Refused 26 [] ∷ []
  pub no_default : refused_by (2 ∷ []) ≡ Refused 26 [] ∷ Refused 26 [] ∷ []
  pub bad_rows : refused_by (2 ∷ 7 ∷ 2 ∷ []) ≡ Refused 4 [] ∷ Refused 4 [] ∷ []
  -- a child resolves again by its own edition and list
  pub child_of_second : listed (family (2 ∷ 8 ∷ 3 ∷ 9 ∷ [])) 2 ten ≡ 4 ∷ 8 ∷ 2 ∷ 5 ∷ 2 ∷ 8 ∷ 3 ∷ 7 ∷ 3 ∷ 9 ∷ []
  pub child_of_first : listed (family (1 ∷ 7 ∷ [])) 2 ten ≡ 4 ∷ 0 ∷ 2 ∷ 5 ∷ 2 ∷ 0 ∷ 3 ∷ 7 ∷ 3 ∷ 0 ∷ []
  -- what a plugin keeps
  pub kept
      : answers_from (run fresh (family (1 ∷ 7 ∷ rows))).registry (Ask (AskPlugin EditionOf 1) ∷ Ask (AskPlugin EditionOf 2) ∷ Ask (AskPlugin EditionOf 3) ∷ [])
      ≡ Accepted (2 ∷ 7 ∷ []) ∷ Accepted (1 ∷ 0 ∷ []) ∷ Refused 1 [] ∷ []
  pub provisions : lent_after_step (example (2 ∷ 7 ∷ rows)) (Write (Listed Provisions 0 0) (0 ∷ 0 ∷ 0 ∷ 0 ∷ [])) ≡ 2 ∷ 5 ∷ 4 ∷ 7 ∷ []
  -- the text's two lines, there and back
  pub first_text : text_of (example (1 ∷ 7 ∷ rows)) ≡ text "edition=1 default=0" "prov=2,5,none prov=4,0,none"
  pub second_text : text_of (example (2 ∷ 7 ∷ rows)) ≡ text "edition=2 default=7" "prov=2,5,none prov=4,7,none"
  pub second_back : read_text (text "edition=2 default=7" "prov=2,5,none prov=4,7,none") ≡ Some (said (example (2 ∷ 7 ∷ rows)))
  pub without_lines : read_text older ≡ None
  pub default_in_first : read_text (text "edition=1 default=7" "prov=2,5,none prov=4,0,none") ≡ None
  pub third : read_text (text "edition=3 default=7" "prov=2,5,none prov=4,0,none") ≡ None
  -- a text's plugin is read by its own edition
  pub loads : load_answer (load 8 (text "edition=2 default=7" "prov=2,5,none prov=4,7,none")) ≡ Accepted []
  pub default_of_another : load_answer (load 8 (text "edition=2 default=7" "prov=2,5,none prov=4,0,none")) ≡ Refused 24 []
  pub default_in_edition_1 : load_answer (load 8 (text "edition=1 default=0" "prov=2,5,none prov=4,7,none")) ≡ Refused 24 []

pub editions : Editions
unfolding load loadable given_within none_left_after text_of read_text insert by_id decimal_of digits_in expect read_number up_to number_of value_from after lent_after checked found lookup count provider rows_in_use bad_realms resolve realm_list bad_edition resolve_key dependency_list dependencies_of new_plugin register listing list ask_plugin
editions = record {
  first_edition_lem = refl;
  second_edition_lem = refl;
  edition_0 = refl;
  edition_3 = refl;
  edition_last = refl;
  no_edition = refl;
  no_default = refl;
  bad_rows = refl;
  child_of_second = refl;
  child_of_first = refl;
  kept = refl;
  provisions = refl;
  first_text = refl;
  second_text = refl;
  second_back = refl;
  without_lines = refl;
  default_in_first = refl;
  third = refl;
  loads = refl;
  default_of_another = refl;
  default_in_edition_1 = refl;
}
