-- What is read of a list: its lines, how many they are, and where they went.
use Rattle.std.specs.Prelude.{ℕ, ◌+◌, ◌^◌, ◌≡◌, Bool, List, ◌∷◌, map, ltb, length, take, Option, Some, None}
use Rattle.rules.specs.Basics.{pick}
use Rattle.rules.specs.Limits.{max_provision_keys}
use Rattle.rules_types.specs.declared.Port.{Port}
use Rattle.rules.specs.Holds.{port, RealmList, Provision, edition_number, default_of}
use Rattle.rules.specs.Text.{realms}
use Rattle.rules.specs.Text.Values.{key_realm, key_realm_value}
use Rattle.text_form.specs.Forms.{Form, behind, counted}
use Rattle.text_form.specs.Lines.{list, number}
use Rattle.text_read_number.specs.Reads.{Reads}
use Rattle.memory_values.specs.Values.{mask_of, values_of}
use Rattle.text_read_block.specs.declared.Provided.{Provided}
use Rattle.text_read_block.specs.Rows.{rows_put, all_put}
use Rattle.text_read_block.specs.Valued.{valued_of}

-- a count line and a line key,realm for each, by the bytes before the values
abbrev pub port_lines : (plural key : List ℕ) → Form (List Port)
port_lines plural key = counted (behind plural number) (behind key key_realm)

-- Of a list that was read: its ports, how many they are, and where they went.
pub record PortsStand (plural key t : List ℕ) (at : ℕ) (before : List ℕ) (row n next : ℕ) (after : List ℕ) : Type 0 where
  pub ports : List Port
  pub reads : Reads (port_lines plural key).read t at (Some (ports, next))
  pub count : n ≡ length ports
  pub stored : after ≡ rows_put before row ports

abbrev pub PortsRead : (plural key t : List ℕ) (at : ℕ) (before : List ℕ) (row : ℕ) → Option (ℕ × ℕ) → List ℕ → Type 0
PortsRead plural key t at before row None after = Reads (port_lines plural key).read t at None
PortsRead plural key t at before row (Some (n, next)) after = PortsStand plural key t at before row n next after

-- A realm list as rows: edition and default lead.
abbrev pub realm_rows : RealmList → List Port
realm_rows l = port (edition_number l.edition) (default_of l.edition) ∷ l.rows

pub record RealmsStand (t : List ℕ) (at : ℕ) (before : List ℕ) (n next : ℕ) (after : List ℕ) : Type 0 where
  pub list : RealmList
  pub reads : Reads realms.read t at (Some (list, next))
  pub count : n ≡ length list.rows
  pub stored : after ≡ rows_put before 0 (realm_rows list)

abbrev pub RealmsRead : (t : List ℕ) (at : ℕ) (before : List ℕ) → Option (ℕ × ℕ) → List ℕ → Type 0
RealmsRead t at before None after = Reads realms.read t at None
RealmsRead t at before (Some (n, next)) after = RealmsStand t at before n next after

-- a mask with the bit of a value more; past the 15th there is none
unfoldable pub mask_with : ℕ → ℕ → Bool → ℕ
mask_with mask i valued = pick (ltb i max_provision_keys) (pick valued (mask + 2 ^ i) mask) mask

abbrev pub provision_lines : Form (List Provision)
provision_lines = list "provs" "prov" key_realm_value

abbrev pub ports_of : List Provision → List Port
ports_of vs = map (λ (v : Provision). v.port) vs

-- The claims' first row is the anchor's.
pub record ProvisionsStand (t : List ℕ) (at : ℕ) (claims values : List ℕ) (r : Provided) (claims' values' : List ℕ) : Type 0 where
  pub provisions : List Provision
  pub reads : Reads provision_lines.read t at (Some (provisions, r.next))
  pub count : r.count ≡ length provisions
  pub valued : r.valued ≡ valued_of provisions
  pub mask : r.mask ≡ mask_of (take max_provision_keys provisions)
  pub claims_stored : claims' ≡ rows_put claims 1 (ports_of provisions)
  pub values_stored : values' ≡ all_put values 0 (values_of provisions)

abbrev pub ProvisionsRead : (t : List ℕ) (at : ℕ) (claims values : List ℕ) → Option Provided → (claims' values' : List ℕ) → Type 0
ProvisionsRead t at claims values None claims' values' = Reads provision_lines.read t at None
ProvisionsRead t at claims values (Some r) claims' values' = ProvisionsStand t at claims values r claims' values'
