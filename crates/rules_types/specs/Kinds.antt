-- What the types of document 01 stand for in numbers.
use Rattle.std.specs.Prelude.{ℕ}
use Rattle.rules_types.specs.declared.Port.{Port}
use Rattle.rules_types.specs.declared.Phase.{Phase}
use Rattle.rules_types.specs.declared.Phase.TheVariants.{Idle, Loading, Active, Unloading}
use Rattle.rules_types.specs.declared.Edition.{Edition}
use Rattle.rules_types.specs.declared.Edition.TheVariants.{First, Second}

-- A port is (key, realm).
abbrev pub port : ℕ → ℕ → Port
port k r = record { key = k; realm = r }

-- Realm 0 and generation 0 are named constants of their kinds.
abbrev pub default_realm : ℕ
default_realm = 0

abbrev pub never_begun : ℕ
never_begun = 0

-- Document 02 [5]: edition 1 or 2.
abbrev pub edition_number : Edition → ℕ
edition_number First = 1
edition_number (Second d) = 2

-- Absent keys get realm 0 in edition 1, and in edition 2 the default realm that comes with the list.
abbrev pub default_of : Edition → ℕ
default_of First = default_realm
default_of (Second d) = d

-- phases in table order
abbrev pub phase_number : Phase → ℕ
phase_number Idle = 0
phase_number Loading = 1
phase_number Active = 2
phase_number Unloading = 3
