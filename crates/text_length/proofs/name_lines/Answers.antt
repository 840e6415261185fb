-- The id's digits, and the parent.
use Rattle.std.proofs.Common.{◌%◌, arith, ap, length}
use Rattle.memory.specs.Layout.{places}
use Rattle.memory.specs.View.{plugin_at}
use Rattle.text_lines.specs.Lines.{or_none}
use Rattle.text_length.proofs.Laws.{name_length}
use Rattle.text_length.proofs.name_lines.Goals as goal

pub returns : goal.returns
unfolding plugin_at
returns c =
    let a = c.args in
    (omega (arith, name_length a.m.now (a.place % places) c.id.ensures, ap (λ o. length (or_none o)) c.parent_of.ensures), omega arith)
