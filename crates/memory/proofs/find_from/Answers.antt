-- `find_from` meets its contract: the search from place i on finds what the whole one does.
use Rattle.std.proofs.Common.{sym, ◌∙◌, arith}
use Rattle.memory.proofs.Search.{find_here, find_next, find_end}
use Rattle.memory.proofs.find_from.Goals as goal

pub returns-then-names : goal.returns-then-names
returns-then-names c = sym (c.loop-i.invariant ∙ find_here _ _ _ (omega arith) (sym c.names.ensures ∙ c.if-names.true))

pub loop-i-preserved : goal.loop-i-preserved
loop-i-preserved c = c.loop-i.invariant ∙ find_next _ _ _ (omega arith) (sym c.names.ensures ∙ c.if-names.false)

pub returns : goal.returns
returns c = sym (c.loop-i.invariant ∙ find_end _ _ _ (omega arith))
