-- `text_in` meets its contract: a refusal says its line alone, and behind that of an acceptance stands the front of what was lent.
use Rattle.console_line.proofs.Laws.{no_text, text_put}
use Rattle.console_line.proofs.text_in.Goals as goal

pub returns-then-status-ne0 : goal.returns-then-status-ne0
returns-then-status-ne0 c =
    let x = c.args in
    no_text x.page.now x.m.now x.room.now _ _ _ c.vaskelbi_write_text-status.ensures _ c.said.ensures c.if-status-ne0.true

pub returns : goal.returns
returns c =
    let x = c.args in
    text_put x.page.now x.m.now x.room.now _ _ _ c.vaskelbi_write_text-status.ensures _ c.said.ensures
    c.if-status-ne0.false _ _ c.front.ensures c.put.ensures
