-- What an operation does, where it is accepted, to who is registered and to generations.
use Rattle.std.specs.Prelude.{ℕ}
use Rattle.rules.specs.Registration.{Definition}
use Rattle.rules.specs.Steps.{Op, Register, Begin, Ready, Fail, Unload, Finish, Replace, Admit, Call, Ask, Retire, RetireChild, Remove, Offer, Write}

pub data Act : Type 0 where
  joins : Definition → Act
  leaves : (id : ℕ) → Act
  begins : (id : ℕ) → Act
  -- none of these
  stays : Act

abbrev pub act : Op → Act
act (Register d) = joins d
act (Remove id) = leaves id
act (Begin id) = begins id
act (Ready id) = stays
act (Fail id) = stays
act (Unload id) = stays
act (Finish id) = stays
act (Replace id v) = stays
act (Admit t a) = stays
act (Call t) = stays
act (Retire id) = stays
act (RetireChild c) = stays
act (Offer id q v) = stays
act (Ask q) = stays
act (Write w l) = stays
