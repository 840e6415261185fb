-- What keys resolve to: repeated keys, the ports claimed, the declared ports, and a candidate of the parent's list.
use Rattle.std.specs.Prelude.{ℕ, ◌+◌, ◌*◌, Bool, false, ◌&&◌, ◌||◌, List, [], ◌∷◌, map, eqb, length, take}
use Rattle.rules.specs.Basics.{pick, any}
use Rattle.rules.specs.Limits.{max_dependency_keys, max_provision_keys, max_dependencies}
use Rattle.rules_types.specs.declared.Port.{Port}
use Rattle.rules.specs.Ports.{resolve_in, flat}
use Rattle.ports_resolved.specs.declared.Claimed.{Claimed}
use Rattle.ports_resolved.specs.declared.Turn.{Turn}
use Rattle.ports_resolved.specs.Filled.{filled}

-- two keys are the same
unfoldable pub keys_repeat : List ℕ → Bool
keys_repeat [] = false
keys_repeat (k ∷ ks) = any (eqb k) ks || keys_repeat ks

-- room for the anchor and the provisions, and for a finished list, as key and realm
abbrev pub claim_room : ℕ
claim_room = (max_provision_keys + 1) * 2

abbrev pub list_room : ℕ
list_room = max_dependencies * 2

-- the anchor and the resolved provisions, of at most 15 keys
abbrev pub claims_of : ℕ → List Port → Port → List ℕ → Claimed
claims_of other rows anchor keys =
    let ports = anchor ∷ map (resolve_in other rows) (take max_provision_keys keys) in
    record { count = length ports; ports = filled claim_room (flat ports) }

-- the resolved keys, at most 16
abbrev pub declared_of : ℕ → List Port → List ℕ → List Port
declared_of other rows keys = map (resolve_in other rows) (take max_dependency_keys keys)

-- a candidate at a turn: the port itself at turn 0, else its key resolved again; both turns at once where the two are one port
abbrev pub candidate_of : ℕ → List Port → ℕ → ℕ → ℕ → Turn
candidate_of other rows turn key realm =
    let again = (resolve_in other rows key).realm in
    record { realm = pick (eqb turn 0) realm again; turns = pick (eqb turn 0 && eqb again realm) 2 1 }
