-- The ports of the first keys, stored one by one; and a candidate by its turn.
use Prim.Native.Nat.{ℕ, ◌+◌, ◌*◌, ◌<◌, ◌≤◌}
use native.Mathlib.Omega.{arith}
use native.Mathlib.Numerals.{add-one}
use mathlib.Core.Path.{◌≡◌, sym, ap, ◌∙◌}
use mathlib.Core.List.{List, map}
use lib.ListN.{length, get_or, set, take, drop, length-map, length-take, drop_of_length-le}
use lib.Seq.{get_or-take, drop-cons}
use borrow.Author.Tests.{eq-eqb, ne_eqb}
use Rattle.rules_types.specs.declared.Port.{Port}
use Rattle.rules.specs.Ports.{resolve_in}
use Rattle.rules.specs.Limits.{max_dependency_keys}
use Rattle.ports_resolved.specs.Keys.{candidate_of}
use Rattle.ports_resolved.specs.Stored.{stored, Stores}

module _ (f : ℕ → Port) (keys array : List ℕ) (i : ℕ) where
  pub stored_next : (q : Port) → i < length keys → i < max_dependency_keys → q ≡ f (get_or keys i 0)
      → stored array i (map f (drop i (take max_dependency_keys keys)))
      ≡ stored (set (set array (i * 2) q.key) (i * 2 + 1) q.realm) (i + 1) (map f (drop (i + 1) (take max_dependency_keys keys)))
  unfolding stored
  stored_next q h l e =
      let g : f (get_or (take max_dependency_keys keys) i 0) ≡ q = ap f (get_or-take max_dependency_keys keys i 0 l) ∙ sym e in
      ap (λ (ks : List ℕ). stored array i (map f ks)) (drop-cons (take max_dependency_keys keys) i 0 (omega (arith, length-take max_dependency_keys keys)))
      ∙ (λ j. stored (set (set array (i * 2) (g j).key) (i * 2 + 1) (g j).realm) (i + 1) (map f (drop (sym (add-one i) j) (take max_dependency_keys keys))))

  stored_end : length (take max_dependency_keys keys) ≤ i → stored array i (map f (drop i (take max_dependency_keys keys))) ≡ array
  unfolding stored
  stored_end h = rw (drop_of_length-le (take max_dependency_keys keys) {i = i} h)

  -- Where no key is left, all are stored.
  pub stored_all : (start : List ℕ) (n : ℕ) → n ≡ length (take max_dependency_keys keys) → length (take max_dependency_keys keys) ≤ i
      → stored start 0 (map f (take max_dependency_keys keys)) ≡ stored array i (map f (drop i (take max_dependency_keys keys)))
      → Stores (map f (take max_dependency_keys keys)) start n array
  stored_all start n e h d = (omega (arith, length-map (take max_dependency_keys keys) f), sym (d ∙ stored_end h))

-- A candidate by its turn, with the realm that its key resolves to.
module _ (other : ℕ) (rows : List Port) (key turn realm : ℕ) {again : ℕ} (e : again ≡ (resolve_in other rows key).realm) where
  pub second_turn : (turn ≡ 0 → ⊥) → record { realm = again; turns = 1 } ≡ candidate_of other rows turn key realm
  second_turn n = rw (ne_eqb turn 0 n, e)

  pub both_turns : turn ≡ 0 → again ≡ realm → record { realm = realm; turns = 2 } ≡ candidate_of other rows turn key realm
  both_turns z s = rw (eq-eqb turn 0 z, eq-eqb (resolve_in other rows key).realm realm (sym e ∙ s))

  pub first_turn : turn ≡ 0 → (again ≡ realm → ⊥) → record { realm = realm; turns = 1 } ≡ candidate_of other rows turn key realm
  first_turn z n = rw (eq-eqb turn 0 z, ne_eqb (resolve_in other rows key).realm realm (λ s. n (e ∙ s)))
