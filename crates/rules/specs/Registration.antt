-- Document 01, "Registration".
use Rattle.std.specs.Prelude.{ℕ, ◌+◌, Bool, false, ◌&&◌, ◌||◌, List, [], ◌∷◌, ◌++◌, map, eqb, ltb, leb, length, Option, Some, None}
use Rattle.rules.specs.Basics.{any, is_some, is_none, holds, last}
use Rattle.rules.specs.Holds.{Port, Provision, Plugin, Registry, lookup, provider, count, rows_in_use, rows_of, is_in, never_begun}
use Rattle.rules.specs.Holds.{Idle, is_unloading, Unissued}
use Rattle.rules.specs.Refusals.{Unknown, Retired, InvalidState, TooManyKeys, DuplicateDependency, DuplicateProvision, Taken}
use Rattle.rules.specs.Refusals.{NoId, Full, TooLong, NoRows}
use Rattle.rules.specs.Outcomes.{Outcome, adds, Check, ◌⇒◌, checked}
use Rattle.rules.specs.Ports.{realm_checks, realm_list, realms_of, resolve}
use Rattle.rules.specs.Dependencies.{dependency_list}
use Rattle.rules.specs.Limits.{max_plugins, max_rows, max_dependency_keys, max_provision_keys, max_dependencies}

-- What a registration is given. The realm list comes with its edition and default.
pub record Definition : Type 0 where
  pub parent : Option ℕ
  pub anchor : Port
  pub realms : List ℕ
  pub dependencies : List ℕ
  pub provisions : List ℕ
  pub payload : ℕ

abbrev pub parent_of : Registry → Option ℕ → Option Plugin
parent_of r None = None
parent_of r (Some id) = lookup r id

abbrev pub inherited_from : Option Plugin → List Port
inherited_from None = []
inherited_from (Some p) = p.dependencies

-- the ports of declared keys
abbrev pub resolved : Definition → List ℕ → List Port
resolved d keys = map (resolve (realms_of d.realms)) keys

-- its provisions with the anchor
abbrev pub claimed : Definition → List Port
claimed d = d.anchor ∷ resolved d d.provisions

-- two of them are alike
abbrev pub repeats : List Port → Bool
repeats [] = false
repeats (p ∷ ps) = is_in p ps || repeats ps

-- its dependency list, under a parent with this list
abbrev pub dependencies_under : List Port → Definition → List Port
dependencies_under parents d = dependency_list (realms_of d.realms) (resolved d d.provisions) d.anchor d.dependencies parents

unfoldable pub dependencies_of : Registry → Definition → List Port
dependencies_of r d = dependencies_under (inherited_from (parent_of r d.parent)) d

abbrev pub unoffered : Port → Provision
unoffered q = record { port = q; value = None }

-- No values, phase Idle, generation 0, revision 0, root Unissued, not retired.
unfoldable pub new_plugin : Registry → Definition → Plugin
new_plugin r d = record {
  id = r.next;
  parent = d.parent;
  anchor = d.anchor;
  realms = realm_list d.realms;
  dependencies = dependencies_of r d;
  provisions = map unoffered (resolved d d.provisions);
  revision = 0;
  payload = d.payload;
  phase = Idle;
  retired = false;
  generation = never_begun;
  root = Unissued;
}

-- parent 1, parent 2, parent Unloading 3
abbrev pub parent_checks : Registry → Option ℕ → List Check
parent_checks r id =
    let parent = parent_of r id in
    (is_some id && is_none parent ⇒ Unknown)
    ∷ (holds (λ (p : Plugin). p.retired) parent ⇒ Retired)
    ∷ (holds (λ (p : Plugin). is_unloading p.phase) parent ⇒ InvalidState)
    ∷ []

-- the declared keys, and the parent: 5, the parent's, 6
abbrev pub key_checks : Registry → Definition → List Check
key_checks r d =
    (ltb max_dependency_keys (length d.dependencies) || ltb max_provision_keys (length d.provisions) ⇒ TooManyKeys)
    ∷ parent_checks r d.parent
    ++ (repeats (resolved d d.dependencies) ⇒ DuplicateDependency)
    ∷ []

-- what is asked for: 26, 4, then those
abbrev pub asked_checks : Registry → Definition → List Check
asked_checks r d = realm_checks d.realms ++ key_checks r d

-- the claimed ports: 7, 8
abbrev pub claim_checks : Registry → List Port → List Check
claim_checks r ports =
    (repeats ports ⇒ DuplicateProvision)
    ∷ (any (λ q. is_some (provider r q)) ports ⇒ Taken)
    ∷ []

-- room for so many dependencies, and so many rows with those in use: 9, 10, 11, 12
abbrev pub room_checks : Registry → ℕ → ℕ → List Check
room_checks r dependencies rows =
    (eqb r.next last ⇒ NoId)
    ∷ (leb max_plugins (count r) ⇒ Full)
    ∷ (ltb max_dependencies dependencies ⇒ TooLong)
    ∷ (ltb max_rows rows ⇒ NoRows)
    ∷ []

-- 26, 4, 5, parent 1, parent 2, parent Unloading 3, then 6, 7, 8, 9, 10, 11, 12
abbrev pub registration_checks : Registry → Definition → List Check
registration_checks r d =
    asked_checks r d
    ++ claim_checks r (claimed d)
    ++ room_checks r (length (dependencies_of r d)) (rows_in_use r + rows_of (new_plugin r d))

-- Accepted: it answers the new id, which is next id.
unfoldable pub register : Registry → Definition → Outcome
register r d = checked (registration_checks r d) (adds (new_plugin r d) (r.next ∷ []))
