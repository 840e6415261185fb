-- Document 02 [4]'s load, computed from texts: [1]'s example and others.
use Rattle.std.specs.Prelude.{ℕ, ◌≡◌, refl, List, [], ◌++◌}
use Prim.Native.String.{String}
use Rattle.rules.specs.Holds.{lookup, count, provider, rows_in_use}
use Rattle.rules.specs.Outcomes.{Refused, Accepted, after, checked, found}
use Rattle.rules.specs.Ports.{bad_realms, resolve, realm_list, bad_edition}
use Rattle.rules.specs.Dependencies.{dependency_list}
use Rattle.rules.specs.Registration.{dependencies_of, new_plugin, register}
use Rattle.rules.specs.Text.{insert, by_id, text_of, read_text}
use Rattle.rules.specs.TextExamples.{shown, example, example_text}
use Rattle.rules.specs.Conditions.{given_within, none_left_after, loadable}
use Rattle.rules.specs.Load.{opens, load, load_answer, after_load}
use Rattle.text_form.specs.Digits.{decimal_of, digits_in}
use Rattle.text_form.specs.Words.{number_of, value_from}
use Rattle.text_form.specs.Forms.{expect}
use Rattle.text_form.specs.Numbers.{read_number, up_to}

-- one plugin of id 1, begun once, without realms, dependencies and provisions
abbrev single : String → String → String → List ℕ
single domain phase root =
    shown domain
    ++ shown "first=1 next=2 plugins=1 id=1 parent=none"
    ++ shown phase
    ++ shown "retired=0 generation=1 revision=0 payload=40"
    ++ shown root
    ++ shown "anchor=9,0 edition=1 default=0 realms=0 deps=0 provs=0"

-- the text after a load under domain 8
abbrev rewritten : List ℕ → List ℕ
rewritten t = text_of (after_load example (load 8 t))

pub record Loads : Type 0 where
  pub example_opens : load 8 (shown example_text) ≡ opens (record { domain = 8; first = 0; next = 1; places = example.places })
  pub example_accepted : load_answer (load 8 (shown example_text)) ≡ Accepted []
  pub example_rewritten
      : rewritten (shown example_text)
      ≡ shown "domain=8 first=0 next=1 plugins=1 id=0 parent=none phase=0 retired=0 generation=0 revision=0 payload=40"
      ++ shown "root=0 queued=none anchor=9,0 edition=1 default=0 realms=1 realm=2,5 deps=0 provs=1 prov=2,5,none"
  pub own_domain : load_answer (load 7 (shown example_text)) ≡ Refused 25 []
  pub own_domain_stays : after_load example (load 7 (shown example_text)) ≡ example
  -- a Queued root is Unissued afterwards, any other as it was
  pub unissued : rewritten (single "domain=7" "phase=1" "root=0 queued=none") ≡ single "domain=8" "phase=1" "root=0 queued=none"
  pub queued : rewritten (single "domain=7" "phase=1" "root=1 queued=0,24") ≡ single "domain=8" "phase=1" "root=0 queued=none"
  pub spent : rewritten (single "domain=7" "phase=2" "root=2 queued=none") ≡ single "domain=8" "phase=2" "root=2 queued=none"
  -- 24: no text of the form, or none that meets the conditions, also under its own domain
  pub torn : load_answer (load 8 (shown "domain=07 first=0 next=0 plugins=0")) ≡ Refused 24 []
  pub unfit : load_answer (load 8 (shown "domain=7 first=1 next=0 plugins=0")) ≡ Refused 24 []
  pub unfit_first : load_answer (load 7 (shown "domain=7 first=1 next=0 plugins=0")) ≡ Refused 24 []

pub loads : Loads
unfolding load loadable given_within none_left_after text_of read_text insert by_id decimal_of digits_in expect read_number up_to number_of value_from after checked found lookup count provider rows_in_use bad_realms resolve realm_list bad_edition dependency_list dependencies_of new_plugin register
loads = record {
  example_opens = refl;
  example_accepted = refl;
  example_rewritten = refl;
  own_domain = refl;
  own_domain_stays = refl;
  unissued = refl;
  queued = refl;
  spent = refl;
  torn = refl;
  unfit = refl;
  unfit_first = refl;
}
