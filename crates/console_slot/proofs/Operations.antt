-- Which operation a name with numbers is. Assumes nothing.
use Rattle.std.specs.Prelude.{Option, Some, None}
use Prim.Native.Nat.{ℕ}
use mathlib.Core.Path.{◌≡◌, refl}
use mathlib.Core.Bool.{true, false}
use mathlib.Core.List.{List, [], ◌∷◌}
use native.Mathlib.Omega.{arith}
use lib.ListN.{length, get_or}
use Rattle.rules.specs.Basics.{same_numbers}
use Rattle.rules.specs.Retirement.{Identity}
use Rattle.rules.specs.Slot as rules
use Rattle.text_form.specs.Bytes.{bytes}
use Rattle.console_slot.specs.Operations.{new_slot, with_none, with_three, decided_by}

abbrev pub new_decides : rules.Slot → Option rules.Decided
new_decides s = Some (new_slot s)

module _ (s : rules.Slot) (name : List ℕ) where
  pub is_reject : same_numbers name (bytes "reject") ≡ true → Some (rules.reject s) ≡ with_none s name
  unfolding with_none
  is_reject e = rw e

  module _ (n : same_numbers name (bytes "reject") ≡ false) where
    pub is_cancel : same_numbers name (bytes "cancel") ≡ true → Some (rules.cancel s) ≡ with_none s name
    unfolding with_none
    is_cancel e = rw (n, e)

    pub neither : same_numbers name (bytes "cancel") ≡ false → None ≡ with_none s name
    unfolding with_none
    neither e = rw (n, e)

module _ (s : rules.Slot) (name : List ℕ) (c : Identity) where
  pub is_pending_lem : same_numbers name (bytes "pending") ≡ true → Some (new_slot (rules.pending c.domain c.parent c.id)) ≡ with_three s name c
  unfolding with_three
  is_pending_lem e = rw e

  module _ (n : same_numbers name (bytes "pending") ≡ false) where
    pub is_assigned : same_numbers name (bytes "assigned") ≡ true → Some (new_slot (rules.assigned c)) ≡ with_three s name c
    unfolding with_three
    is_assigned e = rw (n, e)

    module _ (m : same_numbers name (bytes "assigned") ≡ false) where
      pub is_assign : same_numbers name (bytes "assign") ≡ true → Some (rules.assign s c) ≡ with_three s name c
      unfolding with_three
      is_assign e = rw (n, m, e)

      pub no_name : same_numbers name (bytes "assign") ≡ false → None ≡ with_three s name c
      unfolding with_three
      no_name e = rw (n, m, e)

module _ (s : rules.Slot) (name : List ℕ) where
  pub no_number : (l : List ℕ) → length l ≡ 0 → with_none s name ≡ decided_by s name l
  unfolding decided_by
  no_number [] e = refl
  no_number (a ∷ l) e = absurd (omega arith)

  pub three_numbers : (l : List ℕ) → length l ≡ 3 → with_three s name (record { domain = get_or l 0 0; parent = get_or l 1 0; id = get_or l 2 0 }) ≡ decided_by s name l
  unfolding decided_by
  three_numbers [] e = absurd (omega arith)
  three_numbers (a ∷ []) e = absurd (omega arith)
  three_numbers (a ∷ b ∷ []) e = absurd (omega arith)
  three_numbers (a ∷ b ∷ c ∷ []) e = refl
  three_numbers (a ∷ b ∷ c ∷ d ∷ l) e = absurd (omega arith)

  pub other_count : (l : List ℕ) → (length l ≡ 0 → ⊥) → (length l ≡ 3 → ⊥) → None ≡ decided_by s name l
  unfolding decided_by
  other_count [] z t = absurd (z refl)
  other_count (a ∷ []) z t = refl
  other_count (a ∷ b ∷ []) z t = refl
  other_count (a ∷ b ∷ c ∷ []) z t = absurd (t refl)
  other_count (a ∷ b ∷ c ∷ d ∷ l) z t = refl
