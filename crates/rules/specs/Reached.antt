-- No rule refuses everything or nothing: in these transcripts every operation is accepted, every refusal is given, and for each two
-- checks that stand next to each other a line that both would refuse gets the earlier one's number. No such line can be for 1 where
-- the rest is asked of the plugin found; for a parent's 1 and 2, since an unknown parent has no mark; and for 20 and 21 of an offer,
-- since a port with a value is declared; nor for 27 and 1 of an id, since one that repeats was registered where it stood first.
pub mod Transcripts
pub mod Registrations
pub mod Lives
pub mod Orders
use Rattle.std.specs.Prelude.{ℕ, ◌+◌, ◌^◌, ◌-◌, ◌≡◌, refl, Bool, true, false, ◌&&◌, List, [], ◌∷◌, ◌++◌, eqb, Some}
use Rattle.rules.specs.Basics.{any, all}
use Rattle.rules.specs.Holds.{port, Phase, Idle, Loading, Registry, free_places, opened, lookup, count, provider, rows_in_use}
use Rattle.rules.specs.Outcomes.{Answer, Refused, Accepted, after, lent_after, checked, found, handing_back}
use Rattle.rules.specs.Ports.{bad_realms, resolve, realm_list, bad_edition, resolve_key}
use Rattle.rules.specs.Dependencies.{dependency_list, dependency_port}
use Rattle.rules.specs.Registration.{dependencies_of, new_plugin, register}
use Rattle.rules.specs.Phases.{begin, ready, fail, unload, finish}
use Rattle.rules.specs.Replacement.{replace, fits}
use Rattle.rules.specs.Admission.{admit, admits, is_accepted, is_live, call}
use Rattle.rules.specs.Retirement.{retire, retire_child, child_identity, remove}
use Rattle.rules.specs.Values.{offer, read, visible, own, missing, matching, declares}
use Rattle.rules.specs.Lists.{listing, list}
use Rattle.rules.specs.Queries.{ask_plugin, id_from}
use Rattle.text_form.specs.Digits.{decimal_of, digits_in}
use Rattle.rules.specs.Text.{insert, by_id, text_of, write_text}
use Rattle.rules.specs.Orders.{supplied, passes, plan_behind, check_order, plan_order}
use Rattle.rules.specs.Steps.{Op, Register, Begin, Ready, Fail, Unload, Finish, Replace, Admit, Call, Ask, Retire, RetireChild, Remove, Offer, Write}
use Rattle.rules.specs.Questions.{question_count, Writing, Listed, Text, Order}
use Rattle.rules.specs.Examples.{fresh, worn, holding}
use Rattle.rules.specs.Reached.Transcripts.{Line, Holds, keys}
use Rattle.rules.specs.Reached.Registrations.{registrations, last_id, full_and_last, crowd, full_and_long}
use Rattle.rules.specs.Reached.Lives.{life, family, questions, exhausted, exhausted_loading, unissued}
use Rattle.rules.specs.Reached.Orders.{pier, orders}

-- the operations, numbered in their order: what changes the registry from 0 on, questions from 100 on, what is written to a lent
-- buffer from 200 on
abbrev pub writing_kind : Writing → ℕ
writing_kind (Listed w id place) = 0
writing_kind Text = 1
writing_kind (Order set) = 2

abbrev pub kind : Op → ℕ
kind (Register d) = 0
kind (Begin id) = 1
kind (Ready id) = 2
kind (Fail id) = 3
kind (Unload id) = 4
kind (Finish id) = 5
kind (Replace id payload) = 6
kind (Admit t argument) = 7
kind (Call t) = 8
kind (Retire id) = 9
kind (RetireChild c) = 10
kind (Remove id) = 11
kind (Offer id q value) = 12
kind (Ask {n} q) = 100 + n
kind (Write w buffer) = 200 + writing_kind w

abbrev pub is_refusal : ℕ → Answer → Bool
is_refusal n (Refused m vs) = eqb m n
is_refusal n (Accepted vs) = false

abbrev pub every_line : List Line
every_line = registrations ++ last_id ++ life ++ family ++ questions ++ exhausted ++ crowd ++ full_and_long ++ pier ++ orders

-- Every operation is accepted in one of them, and every refusal given.
abbrev pub accepted_somewhere : ℕ → Bool
accepted_somewhere n = any (λ (l : Line). eqb (kind l.op) n && is_accepted l.answer) every_line

abbrev pub given_somewhere : ℕ → Bool
given_somewhere n = any (λ (l : Line). is_refusal n l.answer) every_line

-- Registries that no short run reaches, or none at all.
abbrev pub worn_out : Phase → Registry
worn_out phase = holding (worn (2 ^ 64 - 1) (2 ^ 64 - 1) (port 5 0 ∷ port 100 0 ∷ []) phase)

abbrev pub smuggled : Registry
smuggled = record { domain = 7; first = 2; next = 2; places = Some (worn 0 0 [] Idle) ∷ free_places 31 }

pub record Reached : Type 0 where
  pub registrations : Holds fresh registrations
  pub last_id : Holds (opened 7 (2 ^ 64 - 2)) last_id
  pub life : Holds fresh life
  pub family : Holds fresh family
  pub questions : Holds fresh questions
  pub exhausted : Holds (worn_out Idle) exhausted
  pub exhausted_loading : Holds (worn_out Loading) exhausted_loading
  pub unissued : Holds smuggled unissued
  pub full_and_last : Holds (opened 7 (2 ^ 64 - 33)) full_and_last
  pub crowd : Holds fresh crowd
  pub full_and_long : Holds fresh full_and_long
  pub orders : Holds fresh (pier ++ orders)
  pub every_operation : all accepted_somewhere (keys 13 0 ++ keys question_count 100 ++ keys 3 200) ≡ true
  pub every_refusal : all given_somewhere (keys 23 1 ++ 26 ∷ 27 ∷ []) ≡ true

pub reached : Reached
unfolding after lent_after checked found handing_back lookup count provider rows_in_use bad_realms resolve realm_list bad_edition resolve_key dependency_list dependency_port dependencies_of new_plugin register begin ready fail unload finish replace fits admit admits is_live call retire retire_child child_identity remove offer read visible own missing matching declares listing list ask_plugin id_from write_text text_of insert by_id decimal_of digits_in supplied passes plan_behind check_order plan_order
reached = record {
  registrations = refl;
  last_id = refl;
  life = refl;
  family = refl;
  questions = refl;
  exhausted = refl;
  exhausted_loading = refl;
  unissued = refl;
  full_and_last = refl;
  crowd = refl;
  full_and_long = refl;
  orders = refl;
  every_operation = refl;
  every_refusal = refl;
}
