-- The numbers from place n-index on, behind what is written, are the whole list's.
use Rattle.std.proofs.Common.{◌+◌, sym, ap, ◌∙◌, drop, arith}
use Rattle.console_answer.specs.Pages.{numbers_on}
use Rattle.console_answer.specs.declared.Page.{Page}
use Rattle.console_answer.proofs.Laws.{numbers_next, numbers_end}
use Rattle.console_answer.proofs.Page.numbers.Goals as goal

pub loop-n-preserved : goal.loop-n-preserved
loop-n-preserved c =
    let list = c.args.list.now in
    let i = c.loop-n.n-index in
    c.loop-n.invariant ∙ numbers_next c.loop-n.self list i (omega arith)
    ∙ ap (λ (p : Page). numbers_on p (drop (i + 1) list)) (sym c.number.ensures)

pub returns : goal.returns
returns c = sym (c.loop-n.invariant ∙ numbers_end c.loop-n.self c.args.list.now c.loop-n.n-index (omega arith))
