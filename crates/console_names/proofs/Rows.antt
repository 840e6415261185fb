-- The row at a place, in the table and behind its end. Assumes nothing.
use Prim.Native.Nat.{ℕ, zero, suc, ◌≤◌, ◌<◌}
use native.Mathlib.Omega.{arith}
use mathlib.Core.Path.{◌≡◌, refl, sym, ap}
use mathlib.Core.List.{List, [], ◌∷◌}
use lib.ListN.{length, get_or, get_or-eq_default}
use Rattle.console_names.specs.declared.Row.{Row}
use Rattle.console_names.specs.declared.Row.TheVariants.{Unknown}
use Rattle.console_names.specs.Table.{Operation, operations, unknown, operation_at, row_at}

abbrev pub rows : List Operation → List Row
rows [] = []
rows (o ∷ os) = o.row ∷ rows os

row_in : (os : List Operation) (i : ℕ) (d : Row) → i < length os → get_or (rows os) i d ≡ (get_or os i unknown).row
row_in [] i d h = absurd (omega arith)
row_in (o ∷ os) zero d h = refl
row_in (o ∷ os) (suc i) d h = row_in os i d (omega arith)

pub in_table : (place : ℕ) (d : Row) → place < length operations → get_or (rows operations) place d ≡ row_at place
unfolding operation_at
in_table place d h = row_in operations place d h

pub past_table : (place : ℕ) → length operations ≤ place → Unknown ≡ row_at place
unfolding operation_at
past_table place h = sym (ap (λ (o : Operation). o.row) (get_or-eq_default operations unknown {n = place} h))
