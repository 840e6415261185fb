-- What each kind of answer says, whatever its refusals are told by. Told by document 01's numbers it is what the crates below say.
use Rattle.std.specs.Prelude.{ℕ, ◌≡◌, refl, Bool, List, [], ◌∷◌, Option, Result, Ok, Err}
use Rattle.rules_types.specs.declared.Port.{Port}
use Rattle.rules_types.specs.declared.Root.{Root}
use Rattle.rules_types.specs.declared.Edition.{Edition}
use Rattle.rules.specs.Basics.{yes_no, one}
use Rattle.rules.specs.Outcomes.{Answer, Refused, Accepted}
use Rattle.rules.specs.Admission.{five}
use Rattle.rules.specs.Queries.{root_numbers}
use Rattle.rules.specs.Refusals.{Refusal, number}
use Rattle.rules.specs.Answers.{answered}
use Rattle.registry_table.specs.declared.Ticket.{Ticket}
use Rattle.registry_live.specs.declared.Invocation.{Invocation}
use Rattle.registry_live.specs.Lives.{invocation_of}
use Rattle.registry_queries.specs.Answers.{port_numbers, edition_numbers}
use Rattle.ports_realms.specs.Answers.{one_port}
use Rattle.registry_steps.specs.Answers.{ticket_numbers}
use Rattle.registry_replace.specs.declared.Unreplaced.{Unreplaced}
use Rattle.registry_replace.specs.Answers.{replaced_answer}
use Rattle.registry_admit.specs.declared.Receipt.{Receipt}
use Rattle.registry_admit.specs.Answers.{receipt_numbers}
use Rattle.slot_child.specs.declared.Identity.{Identity}
use Rattle.registry_retire.specs.Answers.{child_numbers}
use Rattle.registry_values.specs.declared.Reading.{Reading}
use Rattle.registry_values.specs.Answers.{reading_numbers}

-- an acceptance with the numbers of its value, or a refusal with the number that it is told by
abbrev pub answered_by : {T E : Type 0} → (E → ℕ) → (T → List ℕ) → Result T E → Answer
answered_by told f (Ok x) = Accepted (f x)
answered_by told f (Err why) = Refused (told why) []

-- a refused replacement with the payload too
abbrev pub replaced_by : {E : Type 0} → (E → ℕ) → (E → ℕ) → Result ℕ E → Answer
replaced_by told offered (Ok p) = Accepted (p ∷ [])
replaced_by told offered (Err why) = Refused (told why) (offered why ∷ [])

module _ {E : Type 0} (told : E → ℕ) where
  abbrev pub done_by : Result Unit E → Answer
  done_by r = answered_by told (λ _. []) r

  abbrev pub whether_by : Result Bool E → Answer
  whether_by r = answered_by told (λ b. yes_no b ∷ []) r

  abbrev pub number_by : Result ℕ E → Answer
  number_by r = answered_by told (λ n. n ∷ []) r

  abbrev pub perhaps_by : Result (Option ℕ) E → Answer
  perhaps_by r = answered_by told one r

  abbrev pub port_by : Result (Option Port) E → Answer
  port_by r = answered_by told port_numbers r

  abbrev pub root_by : Result Root E → Answer
  root_by r = answered_by told root_numbers r

  abbrev pub edition_by : Result Edition E → Answer
  edition_by r = answered_by told edition_numbers r

  abbrev pub resolved_by : Result Port E → Answer
  resolved_by r = answered_by told one_port r

  abbrev pub begun_by : Result Ticket E → Answer
  begun_by r = answered_by told ticket_numbers r

  abbrev pub admitted_by : Result Invocation E → Answer
  admitted_by r = answered_by told (λ (t : Invocation). five (invocation_of t)) r

  abbrev pub called_by : Result Receipt E → Answer
  called_by r = answered_by told receipt_numbers r

  abbrev pub child_by : Result (Option Identity) E → Answer
  child_by r = answered_by told child_numbers r

  abbrev pub reading_by : Result Reading E → Answer
  reading_by r = answered_by told reading_numbers r

-- Told by document 01's numbers, each is what the crate of the answer says.
pub by_number : {T : Type 0} (f : T → List ℕ) (r : Result T Refusal) → answered_by number f r ≡ answered f r
by_number f r = refl

pub replaced_by_number : (r : Result ℕ Unreplaced) → replaced_by (λ (u : Unreplaced). number u.why) (λ (u : Unreplaced). u.payload) r ≡ replaced_answer r
replaced_by_number r = refl

-- A refusal that is a number is told by itself.
pub by_itself : {T : Type 0} (f : T → List ℕ) (n : ℕ) → answered_by (λ k. k) f (Err n) ≡ Refused n []
by_itself f n = refl
