-- `put_realms` meets its contract: two numbers, and the rows behind them.
use Rattle.std.proofs.Common.{◌*◌, ◌∙◌}
use Rattle.memory.specs.Layout.{place_words}
use Rattle.memory_entry.proofs.Laws.{puts_led}
use Rattle.memory_entry.proofs.put_realms.Goals as goal

pub returns : goal.returns
returns c =
    let a = c.args in
    c.put_words.ensures ∙ puts_led a.m.now a.rows.now (a.place * place_words) a.edition a.default
