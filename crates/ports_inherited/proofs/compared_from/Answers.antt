-- From the first port where the key's bit is set, and from behind the last where it is not.
use Rattle.std.proofs.Common.{sym, ◌∙◌}
use Rattle.ports_inherited.proofs.compared_from.Goals as goal

pub returns-then-has_bit : goal.returns-then-has_bit
returns-then-has_bit c = rw (sym c.has_bit.ensures ∙ c.if-has_bit.true)

pub returns-else-has_bit : goal.returns-else-has_bit
returns-else-has_bit c = rw (sym c.has_bit.ensures ∙ c.if-has_bit.false)
