-- `lower_starts` meets its contract: what is left from place i on, over what is lowered and told so far, is the whole.
use Rattle.std.proofs.Common.{sym, ◌∙◌, arith}
use Rattle.memory_rows.specs.Laws.{lower_next, lower_end, last_next, last_end}
use Rattle.memory_rows.proofs.lower_starts.Goals as goal

pub loop-i-preserved : goal.loop-i-preserved
loop-i-preserved c =
    let l = c.loop-i in (
      rw c.lower_start-last.ensures.0 (l.invariant.0 ∙ lower_next _ _ _ _ _ (omega arith)),
      rw (c.lower_start-last.ensures.0, c.lower_start-last.ensures.1) (l.invariant.1 ∙ last_next _ _ _ _ _ _ (omega arith)),
    )

pub returns : goal.returns
returns c = (
  sym (c.loop-i.invariant.0 ∙ lower_end _ _ _ _ _ (omega arith)),
  sym (c.loop-i.invariant.1 ∙ last_end _ _ _ _ _ (omega arith)),
)
