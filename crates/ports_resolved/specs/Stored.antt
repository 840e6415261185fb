-- Ports stored in a lent array, from its front on.
use Rattle.std.specs.Prelude.{ℕ, ◌+◌, ◌*◌, ◌≤◌, ◌≡◌, refl, List, [], ◌∷◌, ◌++◌, length, set, take}
use Rattle.std.proofs.Common.{arith, sym, ap, ◌∙◌, append_assoc, append-nil, length-append, length-take}
use Rattle.std.proofs.lemmas.List.{length-map}
use Rattle.rules_types.specs.declared.Port.{Port}
use Rattle.rules.specs.Ports.{resolve_in, flat}
use Rattle.rules.specs.Limits.{max_dependency_keys}
use Rattle.ports_resolved.specs.Filled.{filled, Lists, lists_more}
use Rattle.ports_resolved.specs.Keys.{declared_of, list_room}

-- Ports stored in an array, as key and realm, from place k on; the rest stays.
unfoldable pub stored : List ℕ → ℕ → List Port → List ℕ
stored array k [] = array
stored array k (q ∷ qs) = stored (set (set array (k * 2) q.key) (k * 2 + 1) q.realm) (k + 1) qs

-- a count of ports, and an array with them in front
abbrev pub Stores : List Port → List ℕ → ℕ → List ℕ → Type 0
Stores qs array n array' = (n ≡ length qs) × (array' ≡ stored array 0 qs)

-- behind ports that stand in front they stand in front too
pub stored_lists : {size k : ℕ} {array : List ℕ} {ps : List Port} (qs : List Port) → Lists size k array ps → (k + length qs) * 2 ≤ size
    → Lists size (k + length qs) (stored array k qs) (ps ++ qs)
unfolding stored
stored_lists {size} {k} {array} {ps} [] r h = record {
  counted = omega (arith, r.counted, length-append ps []);
  numbers = r.numbers ∙ ap (λ (l : List Port). filled size (flat l)) (sym (append-nil ps));
}
stored_lists {size} {k} {array} {ps} (q ∷ qs) r h =
    let more = stored_lists {size = size} {k = k + 1} qs (lists_more r q {a = k * 2} {b = k * 2 + 1} refl refl (omega arith)) (omega arith) in
    record {
      counted = omega (arith, r.counted, length-append ps (q ∷ qs));
      numbers = more.numbers ∙ ap (λ (l : List Port). filled size (flat l)) (append_assoc ps (q ∷ []) qs);
    }

-- stored in zeros they stand in front, and the rest is 0
pub declared_lists : (other : ℕ) (rows : List Port) (keys : List ℕ) {n : ℕ} {array : List ℕ} → n ≡ length (declared_of other rows keys)
    → array ≡ stored (filled list_room []) 0 (declared_of other rows keys) → Lists list_room n array (declared_of other rows keys)
declared_lists other rows keys e f =
    let ps = declared_of other rows keys in
    let h : (0 + length ps) * 2 ≤ list_room =
    omega (arith, length-map (take max_dependency_keys keys) (resolve_in other rows), length-take max_dependency_keys keys) in
    let none : Lists list_room 0 (filled list_room []) [] = record { counted = refl; numbers = refl } in
    record { counted = e; numbers = f ∙ (stored_lists ps none h).numbers }
