-- Document 01, "Refusal numbers", with document 02's.
use Rattle.std.specs.Prelude.{ℕ, ◌-◌, ◌≤◌, ◌≡◌, refl, get_or, List, [], ◌∷◌}
use Rattle.std.proofs.Common.{arith, ap, sym, ◌∙◌}
pub use Rattle.rules_types.specs.declared.refusal.Refusal.{Refusal}
pub use Rattle.rules_types.specs.declared.refusal.Refusal.TheVariants.{Unknown, Retired, InvalidState, BadRealms, TooManyKeys, DuplicateDependency, DuplicateProvision, Taken, NoId}
pub use Rattle.rules_types.specs.declared.refusal.Refusal.TheVariants.{Full, TooLong, NoRows, Stale, Unavailable, InUse, Exhausted, NotRun, HasChildren}
pub use Rattle.rules_types.specs.declared.refusal.Refusal.TheVariants.{Closed, Undeclared, Duplicate, Missing, ShortBuffer, BadText, SameDomain, BadEdition, Repeated}

abbrev pub number : Refusal → ℕ
-- id not registered; in child retirement, never issued
number Unknown = 1
-- plugin or parent is retired
number Retired = 2
-- foreign domain, wrong kind, parent or phase, root already issued, slot decided
number InvalidState = 3
-- realm list of odd length, over 16 rows, or keys not strictly rising
number BadRealms = 4
-- over 16 dependency or over 15 provision keys
number TooManyKeys = 5
-- two declared dependencies resolve alike
number DuplicateDependency = 6
-- the same among provisions with the anchor
number DuplicateProvision = 7
-- one of those is provided by a registered plugin, anchors counted
number Taken = 8
-- next id is 2^64 − 1
number NoId = 9
-- 32 plugins registered
number Full = 10
-- finished dependency list over 48 ports
number TooLong = 11
-- rows in use + rows needed > 1,024
number NoRows = 12
-- ticket or invocation is not the live one
number Stale = 13
-- a dependency has no Active provider
number Unavailable = 14
-- a Loading or Active plugin depends on one of its provisions or its anchor
number InUse = 15
-- revision or generation is 2^64 − 1
number Exhausted = 16
-- root not Spent
number NotRun = 17
-- a registered plugin names it as parent
number HasChildren = 18
-- wrong phase for values
number Closed = 19
-- port not in the list concerned
number Undeclared = 20
-- value already offered
number Duplicate = 21
-- value absent
number Missing = 22
-- lent room too small
number ShortBuffer = 23
-- no text of the form, or one that breaks a condition
number BadText = 24
-- the domain that the text has
number SameDomain = 25
-- another edition of the realm rule than 1 and 2
number BadEdition = 26
-- an id stands earlier in the set
number Repeated = 27

-- The numbers are from 1 to 27.
pub number_within : (x : Refusal) → (1 ≤ number x) × (number x ≤ 27)
number_within Unknown = (omega arith, omega arith)
number_within Retired = (omega arith, omega arith)
number_within InvalidState = (omega arith, omega arith)
number_within BadRealms = (omega arith, omega arith)
number_within TooManyKeys = (omega arith, omega arith)
number_within DuplicateDependency = (omega arith, omega arith)
number_within DuplicateProvision = (omega arith, omega arith)
number_within Taken = (omega arith, omega arith)
number_within NoId = (omega arith, omega arith)
number_within Full = (omega arith, omega arith)
number_within TooLong = (omega arith, omega arith)
number_within NoRows = (omega arith, omega arith)
number_within Stale = (omega arith, omega arith)
number_within Unavailable = (omega arith, omega arith)
number_within InUse = (omega arith, omega arith)
number_within Exhausted = (omega arith, omega arith)
number_within NotRun = (omega arith, omega arith)
number_within HasChildren = (omega arith, omega arith)
number_within Closed = (omega arith, omega arith)
number_within Undeclared = (omega arith, omega arith)
number_within Duplicate = (omega arith, omega arith)
number_within Missing = (omega arith, omega arith)
number_within ShortBuffer = (omega arith, omega arith)
number_within BadText = (omega arith, omega arith)
number_within SameDomain = (omega arith, omega arith)
number_within BadEdition = (omega arith, omega arith)
number_within Repeated = (omega arith, omega arith)

-- No two refusals have the same number.
abbrev in_order : List Refusal
in_order = Unknown ∷ Retired ∷ InvalidState ∷ BadRealms ∷ TooManyKeys ∷ DuplicateDependency ∷ DuplicateProvision ∷ Taken ∷ NoId ∷ Full ∷ TooLong ∷ NoRows ∷ Stale ∷ Unavailable ∷ InUse ∷ Exhausted ∷ NotRun ∷ HasChildren ∷ Closed ∷ Undeclared ∷ Duplicate ∷ Missing ∷ ShortBuffer ∷ BadText ∷ SameDomain ∷ BadEdition ∷ Repeated ∷ []

back : (x : Refusal) → get_or in_order (number x - 1) Unknown ≡ x
back Unknown = refl
back Retired = refl
back InvalidState = refl
back BadRealms = refl
back TooManyKeys = refl
back DuplicateDependency = refl
back DuplicateProvision = refl
back Taken = refl
back NoId = refl
back Full = refl
back TooLong = refl
back NoRows = refl
back Stale = refl
back Unavailable = refl
back InUse = refl
back Exhausted = refl
back NotRun = refl
back HasChildren = refl
back Closed = refl
back Undeclared = refl
back Duplicate = refl
back Missing = refl
back ShortBuffer = refl
back BadText = refl
back SameDomain = refl
back BadEdition = refl
back Repeated = refl

pub refusal_exact : (x y : Refusal) → number x ≡ number y → x ≡ y
refusal_exact x y e = sym (back x) ∙ ap (λ n. get_or in_order (n - 1) Unknown) e ∙ back y
