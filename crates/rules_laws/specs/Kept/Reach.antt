-- How far an operation reaches: what of the registry it may change.
use Rattle.std.specs.Prelude.{◌≡◌}
use Rattle.rules.specs.Holds.{Plugin}
use Rattle.rules.specs.Steps.{Op, Register, Begin, Ready, Fail, Unload, Finish, Replace, Admit, Call, Ask, Retire, RetireChild, Remove, Offer, Write}

pub data Reach : Type 0 where
  -- a question
  nothing : Reach
  -- one plugin, but for its values
  life : Reach
  -- one plugin and its values
  values : Reach
  -- who is registered
  members : Reach

abbrev pub reach : Op → Reach
reach (Register d) = members
reach (Remove id) = members
reach (Finish id) = values
reach (Offer id q v) = values
reach (Begin id) = life
reach (Ready id) = life
reach (Fail id) = life
reach (Unload id) = life
reach (Replace id v) = life
reach (Admit t a) = life
reach (Call t) = life
reach (Retire id) = life
reach (RetireChild c) = life
reach (Ask q) = nothing
reach (Write w l) = nothing

-- Where p turns into q: how far that may go.
abbrev pub Within : Reach → Plugin → Plugin → Type 0
Within life p q = q.provisions ≡ p.provisions
Within values p q = Unit {0}
Within nothing p q = ⊥
Within members p q = ⊥
