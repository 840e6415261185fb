-- Plugins from the lowest place on: those held, how many places there are, and one plugin more.
use Rattle.std.specs.Prelude.{ℕ, zero, suc, ◌≤◌, ◌<◌, ◌≡◌, refl, List, [], ◌∷◌, ◌++◌, length, Some}
use Rattle.std.proofs.Common.{arith, ap}
use Rattle.rules.specs.Holds.{Plugin, held}
use Rattle.rules.specs.Outcomes.{at_lowest_free}
use Rattle.rules.specs.Load.{placed}

pub held_placed : (n : ℕ) (ps : List Plugin) → length ps ≤ n → held (placed n ps) ≡ ps
held_placed zero [] h = refl
held_placed zero (p ∷ ps) h = absurd (omega arith)
held_placed (suc n) [] h = held_placed n [] (omega arith)
held_placed (suc n) (p ∷ ps) h = ap (λ l. p ∷ l) (held_placed n ps (omega arith))

pub length_placed : (n : ℕ) (ps : List Plugin) → length (placed n ps) ≡ n
length_placed zero ps = refl
length_placed (suc n) [] = ap suc (length_placed n [])
length_placed (suc n) (p ∷ ps) = ap suc (length_placed n ps)

pub placed_more : (n : ℕ) (ps : List Plugin) (p : Plugin) → length ps < n → at_lowest_free p (placed n ps) ≡ placed n (ps ++ p ∷ [])
placed_more zero ps p h = absurd (omega arith)
placed_more (suc n) [] p h = refl
placed_more (suc n) (q ∷ ps) p h = ap (λ l. Some q ∷ l) (placed_more n ps p (omega arith))
