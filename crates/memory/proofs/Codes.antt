-- The last arm of the parent's tag.
use Rattle.std.specs.Prelude.{Some}
use Prim.Native.Nat.{ℕ, zero, suc}
use mathlib.Core.Path.{◌≡◌, refl}
use Rattle.memory.specs.View.{parent_of}

pub parent_rest : (n id : ℕ) → (n ≡ 0 → ⊥) → Some id ≡ parent_of n id
parent_rest zero id h = absurd (h refl)
parent_rest (suc n) id h = refl
