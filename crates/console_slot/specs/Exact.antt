-- A contract allows one outcome.
use Rattle.std.specs.Prelude.{◌≡◌, refl, Option, Some, None, option_map}
use Rattle.std.proofs.Common.{ap}
use Rattle.slot_child.specs.Slots.{decided_of}
use Rattle.slot_child.specs.Exact.{decided_exact}
use Rattle.slot_child.specs.declared.Decided.{Decided}

-- Two outcomes that the contract of decided_by allows are equal.
pub decides_exact : (a b : Option Decided) → option_map decided_of a ≡ option_map decided_of b → a ≡ b
decides_exact None None e = refl
decides_exact None (Some d) e = cc
decides_exact (Some d) None e = cc
decides_exact (Some c) (Some d) e =
    let f : decided_of c ≡ decided_of d = cc in
    ap Some (decided_exact c d f)
