-- How many numbers an operation answers: six at most, and none where its status says all.
use Rattle.std.specs.Prelude.{ℕ, ◌≤◌, ◌≡◌, refl, Bool, true, false, List, [], ◌∷◌, eqb, length, Option, Some, None}
use Rattle.std.proofs.Common.{arith}
use Rattle.rules.specs.Basics.{pick, is_none, one}
use Rattle.rules_types.specs.declared.Port.{Port}
use Rattle.rules.specs.Holds.{Plugin, Provision, Registry, lookup, provider, is_active}
use Rattle.rules.specs.Outcomes.{Outcome, tells, refusing, accepting, writes, stores, adds, removes, answer_of, Check, checked, known, handing_back}
use Rattle.rules.specs.Ports.{flat, resolve_key}
use Rattle.rules.specs.Dependencies.{first_port, dependency_port}
use Rattle.rules.specs.Registration.{Definition, register}
use Rattle.rules.specs.Phases.{begin, ready, fail, unload, finish}
use Rattle.rules.specs.Replacement.{replace, fits}
use Rattle.rules.specs.Admission.{Ticket, Invocation, admit, call}
use Rattle.rules.specs.Retirement.{Identity, retire_found, retire, retire_child, identity, child_identity, remove}
use Rattle.rules.specs.Values.{value_in, given, served, seen, first_missing, offer, read, visible, missing, matching, declares}
use Rattle.rules.specs.Lists.{Which, listing, list}
use Rattle.rules.specs.Queries.{Total, EditionOf, ask_plugin}
use Rattle.rules.specs.Orders.{check_order}
use Rattle.rules.specs.Steps.{Op, answer_to, Register, Begin, Ready, Fail, Unload, Finish, Replace, Admit, Call, Retire, RetireChild, Remove, Offer, Ask, Write}
use Rattle.rules.specs.Questions.{ResolveKey, DependencyPort, Fits, ChildIdentity, Read, Visible, FirstMissing, Matching, Declares}
use Rattle.rules.specs.Questions.{AskPlugin, AskRegistry, CheckOrder, Listed}
use Rattle.rules_laws.specs.Laws.Tests.{checked_elim, found_elim}
use Rattle.console_show.specs.Shown.{values_of}
use Rattle.console_show.specs.Told.{one_fits}

-- The numbers that an outcome answers.
abbrev pub saying : Outcome → List ℕ
saying u = values_of (answer_of u)

-- What holds of no numbers, and of an operation's own, holds of what it answers.
module _ (P : List ℕ → Type 0) (z : P []) where
  after_checks : (cs : List Check) (u : Outcome) → P (saying u) → P (saying (checked cs u))
  after_checks cs u h = checked_elim (λ v. P (saying v)) cs u (λ x. z) (λ c. h)

  of_known : (r : Registry) (id : ℕ) (f : Plugin → Outcome) → ((p : Plugin) → P (saying (f p))) → P (saying (known r id f))
  of_known r id f h = found_elim (λ v. P (saying v)) (lookup r id) f z (λ p e. h p)

  of_child : (parent : ℕ) (u : Option Plugin) → P (saying (retire_found parent u))
  of_child parent None = z
  of_child parent (Some p) = after_checks _ _ z

-- no more than six
abbrev Few : List ℕ → Type 0
Few l = length l ≤ 6

few_picked : (b : Bool) (l k : List ℕ) → Few l → Few k → Few (pick b l k)
few_picked true l k h j = h
few_picked false l k h j = j

few_checked : (cs : List Check) (u : Outcome) → Few (saying u) → Few (saying (checked cs u))
few_checked = after_checks Few (omega arith)

few_known : (r : Registry) (id : ℕ) (f : Plugin → Outcome) → ((p : Plugin) → Few (saying (f p))) → Few (saying (known r id f))
few_known = of_known Few (omega arith)

-- a refusal hands one number back
few_handed : (v : ℕ) (u : Outcome) → Few (saying u) → Few (saying (handing_back v u))
unfolding handing_back
few_handed v (tells (refusing x vs)) h = omega arith
few_handed v (tells (accepting vs)) h = h
few_handed v (writes place l vs) h = h
few_handed v (stores p vs) h = h
few_handed v (adds p vs) h = h
few_handed v (removes id vs) h = h

few_one : (u : Option ℕ) → Few (one u)
few_one u =
    let h = one_fits u in
    omega arith

few_first : (k : ℕ) (ps : List Port) → Few (first_port k ps)
few_first k [] = omega arith
few_first k (p ∷ ps) = few_picked (eqb p.key k) (flat (p ∷ [])) (first_port k ps) (omega arith) (few_first k ps)

few_missing : (vs : List Provision) → Few (first_missing vs)
few_missing [] = omega arith
few_missing (v ∷ vs) = few_picked (is_none v.value) (flat (v.port ∷ [])) (first_missing vs) (omega arith) (few_missing vs)

few_identity : (d id : ℕ) (parent : Option ℕ) → Few (identity d id parent)
few_identity d id None = omega arith
few_identity d id (Some parent) = omega arith

few_given : (p : Plugin) (u : Option ℕ) → Few (given p u)
few_given p None = omega arith
few_given p (Some n) = omega arith

few_served : (q : Port) (u : Option Plugin) → Few (served q u)
few_served q None = omega arith
few_served q (Some p) = few_given p (value_in q p.provisions)

few_seen : (q : Port) (u : Option Plugin) → Few (seen q u)
few_seen q None = omega arith
few_seen q (Some p) = few_picked (is_active p.phase) (one (value_in q p.provisions)) [] (few_one (value_in q p.provisions)) (omega arith)

-- The operation answers six numbers at most, whatever the registry.
abbrev pub Brief : Op → Type 0
Brief o = (r : Registry) → length (values_of (answer_to r o)) ≤ 6

pub register_brief : (d : Definition) → Brief (Register d)
unfolding register
register_brief d r = few_checked _ _ (omega arith)

pub begin_brief : (id : ℕ) → Brief (Begin id)
unfolding begin
begin_brief id r = few_known r id _ λ p. few_checked _ _ (omega arith)

pub replace_brief : (id payload : ℕ) → Brief (Replace id payload)
unfolding replace
replace_brief id payload r = few_handed payload _ (few_known r id _ λ p. few_checked _ _ (omega arith))

pub fits_brief : (id times : ℕ) → Brief (Ask (Fits id times))
unfolding fits
fits_brief id times r = few_known r id _ λ p. omega arith

pub admit_brief : (t : Ticket) (argument : ℕ) → Brief (Admit t argument)
unfolding admit
admit_brief t argument r = few_checked _ _ (few_known r t.id _ λ p. few_checked _ _ (omega arith))

pub call_brief : (t : Invocation) → Brief (Call t)
unfolding call
call_brief t r = few_checked _ _ (few_known r t.id _ λ p. few_checked _ _ (omega arith))

pub child_brief : (id : ℕ) → Brief (Ask (ChildIdentity id))
unfolding child_identity
child_brief id r = few_known r id _ λ p. few_identity r.domain id p.parent

pub read_brief : (id : ℕ) (q : Port) → Brief (Ask (Read id q))
unfolding read
read_brief id q r = few_known r id _ λ p. few_checked _ _ (few_served q (provider r q))

pub visible_brief : (q : Port) → Brief (Ask (Visible q))
unfolding visible
visible_brief q r = few_seen q (provider r q)

pub missing_brief : (id : ℕ) → Brief (Ask (FirstMissing id))
unfolding missing
missing_brief id r = few_known r id _ λ p. few_missing p.provisions

pub matches_brief : (id : ℕ) (ports : List ℕ) → Brief (Ask (Matching id ports))
unfolding matching
matches_brief id ports r = few_known r id _ λ p. omega arith

pub declares_brief : (id : ℕ) (q : Port) → Brief (Ask (Declares id q))
unfolding declares
declares_brief id q r = few_known r id _ λ p. omega arith

pub lookup_brief : (id key : ℕ) → Brief (Ask (DependencyPort id key))
unfolding dependency_port
lookup_brief id key r = few_known r id _ λ p. few_first key p.dependencies

pub resolve_brief : (realms : List ℕ) (key : ℕ) → Brief (Ask (ResolveKey realms key))
unfolding resolve_key
resolve_brief realms key r = few_checked _ _ (omega arith)

pub edition_brief : (id : ℕ) → Brief (Ask (AskPlugin EditionOf id))
unfolding ask_plugin
edition_brief id r = few_known r id _ λ p. omega arith

pub total_brief : (t : Total) → Brief (Ask (AskRegistry t))
total_brief t r = omega arith

pub check_brief : (set order : List ℕ) → Brief (Ask (CheckOrder set order))
unfolding check_order
check_brief set order r = few_checked _ _ (omega arith)

pub listed_brief : (w : Which) (id place : ℕ) (buffer : List ℕ) → Brief (Write (Listed w id place) buffer)
unfolding list listing
listed_brief w id place buffer r = few_known r id _ λ p. few_checked _ _ (omega arith)

-- none at all
abbrev Empty : List ℕ → Type 0
Empty l = l ≡ []

empty_checked : (cs : List Check) (u : Outcome) → Empty (saying u) → Empty (saying (checked cs u))
empty_checked = after_checks Empty refl

empty_known : (r : Registry) (id : ℕ) (f : Plugin → Outcome) → ((p : Plugin) → Empty (saying (f p))) → Empty (saying (known r id f))
empty_known = of_known Empty refl

-- The operation answers no number, whatever the registry.
abbrev pub Silent : Op → Type 0
Silent o = (r : Registry) → values_of (answer_to r o) ≡ []

pub ready_silent : (id : ℕ) → Silent (Ready id)
unfolding ready
ready_silent id r = empty_known r id _ λ p. empty_checked _ _ refl

pub fail_silent : (id : ℕ) → Silent (Fail id)
unfolding fail
fail_silent id r = empty_known r id _ λ p. empty_checked _ _ refl

pub unload_silent : (id : ℕ) → Silent (Unload id)
unfolding unload
unload_silent id r = empty_known r id _ λ p. empty_checked _ _ refl

pub finish_silent : (id : ℕ) → Silent (Finish id)
unfolding finish
finish_silent id r = empty_known r id _ λ p. empty_checked _ _ refl

pub retire_silent : (id : ℕ) → Silent (Retire id)
unfolding retire
retire_silent id r = empty_known r id _ λ p. empty_checked _ _ refl

pub retire_child_silent : (c : Identity) → Silent (RetireChild c)
unfolding retire_child
retire_child_silent c r = empty_checked _ _ (of_child Empty refl c.parent (lookup r c.id))

pub remove_silent : (id : ℕ) → Silent (Remove id)
unfolding remove
remove_silent id r = empty_known r id _ λ p. empty_checked _ _ refl

pub offer_silent : (id : ℕ) (q : Port) (value : ℕ) → Silent (Offer id q value)
unfolding offer
offer_silent id q value r = empty_known r id _ λ p. empty_checked _ _ refl
