-- What callers read off the answers: repeated keys and claimed ports.
use Rattle.std.specs.Prelude.{ℕ, ◌≤◌, ◌≡◌, eqb, length}
use Rattle.std.proofs.Math.Path.{refl}
use Rattle.std.proofs.Common.{ap, ◌∙◌, take_all, eq-eqb, eqb-true}
use mathlib.Core.List.{List, [], ◌∷◌, map}
use Rattle.rules_types.specs.declared.Port.{Port}
use Rattle.rules.specs.Basics.{any}
use Rattle.rules.specs.Holds.{Realms, same_port, is_in}
use Rattle.rules.specs.Ports.{resolve_in, resolve}
use Rattle.rules.specs.Registration.{repeats}
use Rattle.rules_laws.specs.Laws.Tests.{by_test}
use Rattle.rules.specs.Limits.{max_provision_keys}
use Rattle.rules_laws.specs.Laws.Realms.{resolve_key_law}
use Rattle.ports_resolved.specs.declared.Claimed.{Claimed}
use Rattle.ports_resolved.specs.Keys.{keys_repeat, claims_of, claim_room}
use Rattle.ports_resolved.specs.Filled.{Lists}

-- resolved ports are the same exactly if their keys are
module _ (other : ℕ) (rows : List Port) where
  abbrev f : ℕ → Port
  f k = resolve_in other rows k

  same_resolved : (k j : ℕ) → same_port (f k) (f j) ≡ eqb k j
  same_resolved k j =
      rw (resolve_key_law other rows k, resolve_key_law other rows j)
      (by_test (eqb k j)
      (λ t. let e = eqb-true k j t in rw (t, ← e) (eq-eqb (f k).realm (f k).realm refl))
      (λ n. rw n))

  in_resolved : (k : ℕ) (ks : List ℕ) → is_in (f k) (map f ks) ≡ any (eqb k) ks
  in_resolved k [] = refl
  in_resolved k (j ∷ ks) = rw (same_resolved k j, in_resolved k ks)

  pub keys_repeat_lem : (keys : List ℕ) → repeats (map (resolve_in other rows) keys) ≡ keys_repeat keys
  unfolding keys_repeat
  keys_repeat_lem [] = refl
  keys_repeat_lem (k ∷ ks) = rw (in_resolved k ks, keys_repeat_lem ks)

-- the same by a realm table
pub map_resolve : (z : Realms) (keys : List ℕ) → map (resolve z) keys ≡ map (resolve_in z.other z.rows) keys
unfolding resolve
map_resolve z keys = refl

pub keys_repeat_in : (z : Realms) (keys : List ℕ) → repeats (map (resolve z) keys) ≡ keys_repeat keys
keys_repeat_in z keys = ap repeats (map_resolve z keys) ∙ keys_repeat_lem z.other z.rows keys

-- at most 15 keys are all claimed, behind the anchor
module _ (other : ℕ) (rows : List Port) (anchor : Port) (keys : List ℕ) (h : length keys ≤ max_provision_keys) where
  abbrev c : Claimed
  c = claims_of other rows anchor keys

  pub claims_law : Lists claim_room c.count c.ports (anchor ∷ map (resolve_in other rows) keys)
  claims_law = rw (take_all max_provision_keys keys h) record { counted = refl; numbers = refl }
