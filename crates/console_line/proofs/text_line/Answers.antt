-- `text_line` meets its contract: so many of the room's bytes are lent, or as many as there are.
use Rattle.std.proofs.Common.{ap, ◌∙◌}
use Rattle.console_answer.specs.Pages.{text_room}
use Rattle.console_line.specs.Lines.{text_on}
use Rattle.console_line.proofs.Laws.{lent, lent_length}
use Rattle.console_line.proofs.text_line.Goals as goal

pub slice_bounds-text_in-end : goal.slice_bounds-text_in-end
slice_bounds-text_in-end c = lent_length text_room c.args.size c.min-most.result c.min-most.ensures

pub returns : goal.returns
returns c =
    let x = c.args in
    c.text_in.ensures ∙ ap (text_on x.page.now x.m.now) (lent text_room x.size c.min-most.result c.min-most.ensures)
