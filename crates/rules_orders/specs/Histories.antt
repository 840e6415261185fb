-- Whether a plugin is Active, read off the history of accepted operations: each step makes it so, or not, as the history says.
use Rattle.std.specs.Prelude.{ℕ, Bool, true, false, List, [], ◌∷◌, Option}
use Rattle.std.proofs.Math.Dec.{eqb}
use Rattle.rules.specs.Basics.{pick, holds}
use Rattle.rules.specs.Holds.{Plugin, Registry, lookup, is_active}
use Rattle.rules.specs.Outcomes.{Answer, Refused, Accepted}
use Rattle.rules.specs.Steps.{Op, Register, Begin, Ready, Fail, Unload, Finish, Replace, Admit, Call, Retire, RetireChild, Remove, Offer, Ask, Write}
use Rattle.rules.specs.Steps.{Event}

-- What an accepted operation does to whether plugin x is Active: only ready and unload change that.
abbrev pub up_by : ℕ → Op → Bool → Bool
up_by x (Ready id) b = pick (eqb id x) true b
up_by x (Unload id) b = pick (eqb id x) false b
up_by x (Register d) b = b
up_by x (Begin id) b = b
up_by x (Fail id) b = b
up_by x (Finish id) b = b
up_by x (Replace id v) b = b
up_by x (Admit t a) b = b
up_by x (Call t) b = b
up_by x (Retire id) b = b
up_by x (RetireChild c) b = b
up_by x (Remove id) b = b
up_by x (Offer id q v) b = b
up_by x (Ask q) b = b
up_by x (Write w l) b = b

-- a refused one changes nothing
abbrev pub up_after : ℕ → Op → Answer → Bool → Bool
up_after x o (Refused n vs) b = b
up_after x o (Accepted vs) b = up_by x o b

abbrev pub active : Option Plugin → Bool
active u = holds (λ (p : Plugin). is_active p.phase) u

-- Whether plugin x is Active, by the history: its latest accepted ready or unload was a ready; before any, as it was at the start.
abbrev pub is_up : Registry → ℕ → List Event → Bool
is_up s x [] = active (lookup s x)
is_up s x (e ∷ es) = up_after x e.op e.answer (is_up s x es)
