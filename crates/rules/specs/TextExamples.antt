-- Document 02 [1]'s example and others of its kind: registries that operations build, their texts, and what is no text, each computed.
use Rattle.std.specs.Prelude.{ℕ, ◌^◌, ◌-◌, ◌≡◌, List, [], ◌∷◌, eqb, Some, None}
use Prim.Native.String.{String}
use Rattle.rules.specs.Basics.{pick}
use Rattle.rules.specs.Holds.{port, Registry, opened}
use Rattle.rules.specs.Steps.{Op, Begin, Ready, Admit, Call, Retire, Remove, Offer, run}
use Rattle.rules.specs.Examples.{registers, ticket, invocation}
use Rattle.text_form.specs.Bytes.{bytes}
use Rattle.rules.specs.Text.{said, text_of, read_text}

-- The document shows a text's lines parted by spaces.
abbrev pub ended : List ℕ → List ℕ
ended [] = 10 ∷ []
ended (b ∷ l) = pick (eqb b 32) 10 b ∷ ended l

abbrev pub shown : String → List ℕ
shown s = ended (bytes s)

-- of domain 7 and this first id
abbrev pub built : ℕ → List Op → Registry
built first ops = (run (opened 7 first) ops).registry

-- no parent, realms 2→5, no dependencies, provision key 2, anchor (9,0), payload 40
abbrev pub provides : Op
provides = registers None (port 9 0) (2 ∷ 5 ∷ []) [] (2 ∷ [])

abbrev pub example : Registry
example = built 0 (provides ∷ [])

-- Plugin 1 leaves its place to 3, a child of 2 that stands behind it.
abbrev pub family : Registry
family =
    built 1
    (registers None (port 100 0) [] [] []
    ∷ registers None (port 101 0) [] (2 ∷ 3 ∷ []) []
    ∷ Retire 1
    ∷ Remove 1
    ∷ registers (Some 2) (port 102 0) (2 ∷ 5 ∷ 9 ∷ 1 ∷ []) (9 ∷ []) (3 ∷ [])
    ∷ [])

abbrev pub queued : Registry
queued = built 1 (provides ∷ Begin 1 ∷ Admit (ticket 1 1) 24 ∷ [])

-- Active with its value, and retired.
abbrev pub served : Registry
served = built 1 (provides ∷ Begin 1 ∷ Admit (ticket 1 1) 24 ∷ Call (invocation 1 1 0 24) ∷ Offer 1 (port 2 5) 77 ∷ Ready 1 ∷ Retire 1 ∷ [])

abbrev pub last_id : Registry
last_id = built (2 ^ 64 - 2) (registers None (port 0 (2 ^ 64 - 1)) [] [] [] ∷ [])

abbrev pub example_text : String
example_text =
    "domain=7 first=0 next=1 plugins=1 id=0 parent=none phase=0 retired=0 generation=0 revision=0 payload=40 root=0 queued=none anchor=9,0 edition=1 default=0 realms=1 realm=2,5 deps=0 provs=1 prov=2,5,none"

abbrev pub last_id_text : String
last_id_text = "domain=7 first=18446744073709551614 next=18446744073709551615 plugins=1 id=18446744073709551614 parent=none phase=0 retired=0 generation=0 revision=0 payload=40 root=0 queued=none anchor=0,18446744073709551615 edition=1 default=0 realms=0 deps=0 provs=0"

pub record Texts : Type 0 where
  pub example_text_lem : text_of example ≡ shown example_text
  pub example_back : read_text (shown example_text) ≡ Some (said example)
  pub empty : text_of (built 0 []) ≡ shown "domain=7 first=0 next=0 plugins=0"
  pub by_rising_id
      : text_of family
      ≡ shown "domain=7 first=1 next=4 plugins=2 id=2 parent=none phase=0 retired=0 generation=0 revision=0 payload=40 root=0 queued=none anchor=101,0 edition=1 default=0 realms=0 deps=2 dep=2,0 dep=3,0 provs=0 id=3 parent=2 phase=0 retired=0 generation=0 revision=0 payload=40 root=0 queued=none anchor=102,0 edition=1 default=0 realms=2 realm=2,5 realm=9,1 deps=3 dep=9,1 dep=2,0 dep=2,5 provs=1 prov=3,0,none"
  pub queued_root
      : text_of queued
      ≡ shown "domain=7 first=1 next=2 plugins=1 id=1 parent=none phase=1 retired=0 generation=1 revision=0 payload=40 root=1 queued=0,24 anchor=9,0 edition=1 default=0 realms=1 realm=2,5 deps=0 provs=1 prov=2,5,none"
  pub value
      : text_of served
      ≡ shown "domain=7 first=1 next=2 plugins=1 id=1 parent=none phase=2 retired=1 generation=1 revision=0 payload=40 root=2 queued=none anchor=9,0 edition=1 default=0 realms=1 realm=2,5 deps=0 provs=1 prov=2,5,77"
  pub last_id_lem : text_of last_id ≡ shown last_id_text
  -- no texts: a leading zero, 2^64, a count too high or too low, a line that does not end or is not there
  pub leading_zero : read_text (shown "domain=07 first=0 next=0 plugins=0") ≡ None
  pub too_high : read_text (shown "domain=18446744073709551616 first=0 next=0 plugins=0") ≡ None
  pub one_too_few : read_text (shown "domain=7 first=0 next=0 plugins=1") ≡ None
  pub one_too_many : read_text (shown "domain=7 first=0 next=0 plugins=0 id=0") ≡ None
  pub unended : read_text (bytes "domain=7\nfirst=0\nnext=0\nplugins=0") ≡ None
  pub nothing : read_text [] ≡ None
