-- The values that stand behind a key in the registry's text, each with the byte that ends it: 10 ends a line.
use Rattle.std.specs.Prelude.{ℕ, ◌+◌, Bool, true, false, List, [], ◌∷◌, ◌⊎◌}
use Rattle.std.proofs.Common.{inl, inr}
use Rattle.rules.specs.Basics.{yes_no}
use Rattle.rules_types.specs.declared.Port.{Port}
use Rattle.rules_types.specs.declared.Phase.{Phase}
use Rattle.rules_types.specs.declared.Phase.TheVariants.{Idle, Loading, Active, Unloading}
use Rattle.rules_types.specs.declared.Root.{Root}
use Rattle.rules_types.specs.declared.Root.TheVariants.{Unissued, Queued, Spent}
use Rattle.rules.specs.Holds.{port, Provision, Edition, First, Second}
use Rattle.rules.specs.Queries.{phase_number}
use Rattle.text_form.specs.Bytes.{bytes}
use Rattle.text_form.specs.Forms.{Form, behind, literal, ◌then◌, either, one_of, like}
use Rattle.text_form.specs.Lines.{number, comma, number_or_none}

-- key,realm
abbrev pub key_realm : Form Port
key_realm = like (comma then number) (λ p. (p.key, p.realm)) (λ (key, realm). port key realm)

-- key,realm,value or none
abbrev pub key_realm_value : Form Provision
key_realm_value =
    like
    (comma then comma then number_or_none)
    (λ v. (v.port.key, (v.port.realm, v.value)))
    (λ (key, (realm, value)). record { port = port key realm; value = value })

-- One digit alone.
abbrev pub digit : ℕ → List ℕ
digit n = (48 + n) ∷ bytes "\n"

-- 0 to 3 in table order
abbrev pub phases : List Phase
phases = Idle ∷ Loading ∷ Active ∷ Unloading ∷ []

abbrev pub phase : Form Phase
phase = one_of (λ p. digit (phase_number p)) phases

-- 0 or 1
abbrev pub zero_or_one : Form Bool
zero_or_one = one_of (λ m. digit (yes_no m)) (false ∷ true ∷ [])

-- Two lines: root (0 Unissued, 1 Queued, 2 Spent), and queued (revision,argument while root is 1, else none).
abbrev pub unissued : Form (Unit {0})
unissued = literal (bytes "root=0\nqueued=none\n")

abbrev pub queued : Form (ℕ × ℕ)
queued = behind (bytes "root=1\nqueued=") (comma then number)

abbrev pub spent : Form (Unit {0})
spent = literal (bytes "root=2\nqueued=none\n")

abbrev pub from_root : Root → Unit {0} ⊎ ((ℕ × ℕ) ⊎ Unit {0})
from_root Unissued = inl tt
from_root (Queued v a) = inr (inl (v, a))
from_root Spent = inr (inr tt)

abbrev pub to_root : Unit {0} ⊎ ((ℕ × ℕ) ⊎ Unit {0}) → Root
to_root (inl u) = Unissued
to_root (inr (inl q)) = Queued q.0 q.1
to_root (inr (inr u)) = Spent

abbrev pub root_and_queued : Form Root
root_and_queued = like (either unissued (either queued spent)) from_root to_root

-- Two lines: edition (1 or 2) and default (0 in edition 1).
abbrev pub first_edition : Form (Unit {0})
first_edition = literal (bytes "edition=1\ndefault=0\n")

abbrev pub second_edition : Form ℕ
second_edition = behind (bytes "edition=2\ndefault=") number

abbrev pub from_edition : Edition → Unit {0} ⊎ ℕ
from_edition First = inl tt
from_edition (Second d) = inr d

abbrev pub to_edition : Unit {0} ⊎ ℕ → Edition
to_edition (inl u) = First
to_edition (inr d) = Second d

abbrev pub edition_and_default : Form Edition
edition_and_default = like (either first_edition second_edition) from_edition to_edition
