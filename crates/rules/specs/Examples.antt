-- Document 01, "Numbered examples": E1 to E10, E4 as document 02 [3] amends it, each computed from the rules.
use Rattle.std.specs.Prelude.{ℕ, ◌^◌, ◌-◌, ◌≡◌, refl, false, List, [], ◌∷◌, Option, Some, None}
use Rattle.rules.specs.Holds.{Port, port, First, Plugin, Registry, Phase, Idle, Unissued, opened, free_places, lookup, count, provider, rows_in_use}
use Rattle.rules.specs.Outcomes.{Answer, Refused, Accepted, after, lent_after, checked, found, handing_back}
use Rattle.rules.specs.Ports.{bad_realms, resolve, realm_list, bad_edition, resolve_key}
use Rattle.rules.specs.Dependencies.{dependency_list, dependency_port}
use Rattle.rules.specs.Registration.{dependencies_of, new_plugin, register}
use Rattle.rules.specs.Phases.{begin}
use Rattle.rules.specs.Replacement.{replace, fits}
use Rattle.rules.specs.Admission.{Ticket, Invocation, admit, is_live, call}
use Rattle.rules.specs.Lists.{Dependencies, listing, list}
use Rattle.rules.specs.Queries.{RowsInUse}
use Rattle.rules.specs.Steps.{Op, Register, Begin, Replace, Admit, Call, answer_to, after_step, lent_after_step, run, Ask, Write}
use Rattle.rules.specs.Questions.{ResolveKey, DependencyPort, Fits, Listed, AskRegistry}

-- a realm list of edition 1, which has no default of its own, and one of edition 2
abbrev pub in_first : List ℕ → List ℕ
in_first rows = 1 ∷ 0 ∷ rows

abbrev pub in_second : ℕ → List ℕ → List ℕ
in_second default rows = 2 ∷ default ∷ rows

-- a registration with payload 40, of these realms
abbrev pub registers_by : List ℕ → Option ℕ → Port → List ℕ → List ℕ → Op
registers_by realms parent anchor dependencies provisions = Register (record {
  parent = parent;
  anchor = anchor;
  realms = realms;
  dependencies = dependencies;
  provisions = provisions;
  payload = 40;
})

-- with these rows, in edition 1
abbrev pub registers : Option ℕ → Port → List ℕ → List ℕ → List ℕ → Op
registers parent anchor rows dependencies provisions = registers_by (in_first rows) parent anchor dependencies provisions

-- The answers to a sequence of operations, in order.
abbrev pub answers_from : Registry → List Op → List Answer
answers_from r [] = []
answers_from r (o ∷ os) = answer_to r o ∷ answers_from (after_step r o) os

-- a fresh registry of domain 7 and first id 1
abbrev pub fresh : Registry
fresh = opened 7 1

abbrev pub answers_to : List Op → List Answer
answers_to ops = answers_from fresh ops

-- the dependencies of plugin id after a sequence, listed into a buffer
abbrev pub listed : List Op → ℕ → List ℕ → List ℕ
listed ops id buffer = lent_after_step (run fresh ops).registry (Write (Listed Dependencies id 0) buffer)

abbrev pub E1-realms : List ℕ
E1-realms = 2 ∷ 5 ∷ 9 ∷ 1 ∷ []

-- a parent (1) with dependencies (2,0), (3,0), and its child
abbrev pub E2-plugins : List Op
E2-plugins =
    registers None (port 100 0) [] (2 ∷ 3 ∷ []) []
    ∷ registers (Some 1) (port 101 0) E1-realms (9 ∷ []) (3 ∷ [])
    ∷ []

-- a parent (1) with dependency (2,5), and its child
abbrev pub E3-plugins : List Op
E3-plugins =
    registers None (port 100 0) (2 ∷ 5 ∷ []) (2 ∷ []) []
    ∷ registers (Some 1) (port 101 0) E1-realms (2 ∷ []) []
    ∷ []

-- a parent (1) with dependency (4,0), its child with that anchor and these dependency keys, and a grandchild
abbrev pub E4-plugins : List ℕ → List Op
E4-plugins keys =
    registers None (port 100 0) [] (4 ∷ []) []
    ∷ registers (Some 1) (port 4 0) [] keys []
    ∷ registers (Some 2) (port 101 0) [] [] []
    ∷ []

-- the same parent, and a child with anchor (4,6), which its key 4 resolves to
abbrev pub E4-again_plugins : List Op
E4-again_plugins =
    registers None (port 100 0) [] (4 ∷ []) []
    ∷ registers (Some 1) (port 4 6) (4 ∷ 6 ∷ []) [] []
    ∷ []

-- how many dependencies the child and the grandchild have, and the answers to their begin
abbrev pub E4-answers : List ℕ → List Answer
E4-answers keys =
    answers_from (run fresh (E4-plugins keys)).registry
    (Write (Listed Dependencies 2 0) (0 ∷ 0 ∷ []) ∷ Begin 2 ∷ Write (Listed Dependencies 3 0) (0 ∷ 0 ∷ []) ∷ Begin 3 ∷ [])

-- a grandparent (1) with (2,0), a parent (2) that so gets (2,0), (2,7), and its child
abbrev pub E5-plugins : List Op
E5-plugins =
    registers None (port 100 0) [] (2 ∷ []) []
    ∷ registers (Some 1) (port 101 0) (2 ∷ 7 ∷ []) [] []
    ∷ registers (Some 2) (port 102 0) (2 ∷ 5 ∷ []) [] []
    ∷ []

-- an Idle plugin of id 1, with this revision, generation and dependencies
abbrev pub worn : ℕ → ℕ → List Port → Phase → Plugin
worn revision generation dependencies phase = record {
  id = 1;
  parent = None;
  anchor = port 100 0;
  realms = record { edition = First; rows = [] };
  dependencies = dependencies;
  provisions = [];
  revision = revision;
  payload = 40;
  phase = phase;
  retired = false;
  generation = generation;
  root = Unissued;
}

abbrev pub holding : Plugin → Registry
holding p = record { domain = 7; first = 1; next = 2; places = Some p ∷ free_places 31 }

abbrev pub E6-registry : Registry
E6-registry = holding (worn (2 ^ 64 - 4) 0 [] Idle)

-- no parent, no dependency or provision keys
abbrev pub plain : Op
plain = registers None (port 100 0) [] [] []

-- a Setup ticket of domain 7, and an invocation
abbrev pub ticket : ℕ → ℕ → Ticket
ticket id generation = record { domain = 7; id = id; generation = generation; kind = 1 }

abbrev pub invocation : ℕ → ℕ → ℕ → ℕ → Invocation
invocation id generation revision argument = record {
  domain = 7;
  id = id;
  generation = generation;
  revision = revision;
  argument = argument;
}

pub record Examples : Type 0 where
  pub E1 : answers_to (Ask (ResolveKey (in_first E1-realms) 2) ∷ Ask (ResolveKey (in_first E1-realms) 3) ∷ []) ≡ Accepted (2 ∷ 5 ∷ []) ∷ Accepted (3 ∷ 0 ∷ []) ∷ []
  pub E2 : listed E2-plugins 2 (0 ∷ 0 ∷ 0 ∷ 0 ∷ 0 ∷ 0 ∷ []) ≡ 9 ∷ 1 ∷ 2 ∷ 0 ∷ 2 ∷ 5 ∷ []
  pub E3 : listed E3-plugins 2 (0 ∷ 0 ∷ []) ≡ 2 ∷ 5 ∷ []
  pub E4 : E4-answers [] ≡ Accepted (0 ∷ []) ∷ Accepted (7 ∷ 2 ∷ 1 ∷ 1 ∷ []) ∷ Accepted (0 ∷ []) ∷ Accepted (7 ∷ 3 ∷ 1 ∷ 1 ∷ []) ∷ []
  -- declared and anchor: it stays, is handed down, and begin answers 14
  pub E4-declared : E4-answers (4 ∷ []) ≡ Accepted (1 ∷ []) ∷ Refused 14 [] ∷ Accepted (1 ∷ []) ∷ Refused 14 [] ∷ []
  pub E4-declared_list : listed (E4-plugins (4 ∷ [])) 2 (0 ∷ 0 ∷ []) ≡ 4 ∷ 0 ∷ []
  -- the anchor is told by key and realm, and a key resolved again to it is skipped too
  pub E4-again : listed E4-again_plugins 2 (0 ∷ 0 ∷ []) ≡ 4 ∷ 0 ∷ []
  pub E5 : listed E5-plugins 3 (0 ∷ 0 ∷ 0 ∷ 0 ∷ 0 ∷ 0 ∷ []) ≡ 2 ∷ 0 ∷ 2 ∷ 5 ∷ 2 ∷ 7 ∷ []
  pub E5-key : answer_to (run fresh E5-plugins).registry (Ask (DependencyPort 3 2)) ≡ Accepted (2 ∷ 0 ∷ [])
  pub E6 : answers_from E6-registry (Ask (Fits 1 3) ∷ Ask (Fits 1 4) ∷ []) ≡ Accepted (1 ∷ []) ∷ Accepted (0 ∷ []) ∷ []
  pub E7
      : answers_to (plain ∷ Write (Listed Dependencies 1 0) [] ∷ Ask (AskRegistry RowsInUse) ∷ [])
      ≡ Accepted (1 ∷ []) ∷ Accepted (0 ∷ []) ∷ Accepted (1 ∷ []) ∷ []
  pub E8
      : answers_to (registers None (port 100 0) (2 ∷ 5 ∷ 2 ∷ 1 ∷ []) [] [] ∷ registers None (port 100 0) (9 ∷ 1 ∷ 2 ∷ 5 ∷ []) [] [] ∷ [])
      ≡ Refused 4 [] ∷ Refused 4 [] ∷ []
  pub E9
      : answers_to (plain ∷ Begin 1 ∷ Admit (ticket 1 1) 24 ∷ Replace 1 40 ∷ Call (invocation 1 1 0 24) ∷ [])
      ≡ Accepted (1 ∷ []) ∷ Accepted (7 ∷ 1 ∷ 1 ∷ 1 ∷ []) ∷ Accepted (7 ∷ 1 ∷ 1 ∷ 0 ∷ 24 ∷ []) ∷ Accepted (40 ∷ []) ∷ Refused 13 [] ∷ []
  pub E10
      : answers_to (plain ∷ Begin 1 ∷ Admit (ticket 1 1) 24 ∷ Call (invocation 1 1 0 24) ∷ Call (invocation 1 1 0 24) ∷ [])
      ≡ Accepted (1 ∷ []) ∷ Accepted (7 ∷ 1 ∷ 1 ∷ 1 ∷ []) ∷ Accepted (7 ∷ 1 ∷ 1 ∷ 0 ∷ 24 ∷ [])
      ∷ Accepted (7 ∷ 1 ∷ 1 ∷ 0 ∷ 40 ∷ 24 ∷ []) ∷ Refused 13 [] ∷ []

pub examples : Examples
unfolding after lent_after checked found handing_back lookup count provider rows_in_use bad_realms resolve realm_list bad_edition resolve_key dependency_list dependency_port dependencies_of new_plugin register begin replace fits admit is_live call listing list
examples = record {
  E1 = refl;
  E2 = refl;
  E3 = refl;
  E4 = refl;
  E4-declared = refl;
  E4-declared_list = refl;
  E4-again = refl;
  E5 = refl;
  E5-key = refl;
  E6 = refl;
  E7 = refl;
  E8 = refl;
  E9 = refl;
  E10 = refl;
}
