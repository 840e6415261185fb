-- The last arm of each code.
use Prim.Native.Nat.{ℕ, zero, suc}
use mathlib.Core.Path.{◌≡◌, refl}
use Rattle.rules_types.specs.declared.Phase.TheVariants.{Unloading}
use Rattle.rules_types.specs.declared.Root.TheVariants.{Spent}
use Rattle.memory.specs.View.{phase_of, root_of}

pub root_rest : (n v a : ℕ) → (n ≡ 0 → ⊥) → (n ≡ 1 → ⊥) → Spent ≡ root_of n v a
root_rest zero v a h k = absurd (h refl)
root_rest (suc zero) v a h k = absurd (k refl)
root_rest (suc (suc n)) v a h k = refl

pub phase_rest : (n : ℕ) → (n ≡ 0 → ⊥) → (n ≡ 1 → ⊥) → (n ≡ 2 → ⊥) → Unloading ≡ phase_of n
phase_rest zero f g h = absurd (f refl)
phase_rest (suc zero) f g h = absurd (g refl)
phase_rest (suc (suc zero)) f g h = absurd (h refl)
phase_rest (suc (suc (suc n))) f g h = refl
