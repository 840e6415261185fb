-- What the answers of this crate's functions say.
use Rattle.std.specs.Prelude.{ℕ, ◌+◌, List, [], ◌∷◌, eqb, Option, Some, None}
use Rattle.rules.specs.Basics.{pick}
use Rattle.rules_types.specs.declared.Port.{Port}

-- the place of the first port with the key, counted from i
unfoldable pub first_from : ℕ → ℕ → List Port → Option ℕ
first_from i k [] = None
first_from i k (p ∷ ps) = pick (eqb p.key k) (Some i) (first_from (i + 1) k ps)
