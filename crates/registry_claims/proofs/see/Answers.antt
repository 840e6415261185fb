-- The word of the key's bit has it.
use Rattle.registry_claims.proofs.see.Goals as goal

pub returns : goal.returns
returns c = rw c.with_bit.ensures
