-- Each case's two lines.
use Rattle.std.proofs.Common.{arith}
use Rattle.text_form.specs.Bytes.{bytes}
use Rattle.text_length.proofs.Laws.{pair_length}
use Rattle.text_length.proofs.root_lines.Goals as goal

pub returns-in-Queued : goal.returns-in-Queued
returns-in-Queued c =
    rw c.in-Queued.is (omega (arith, pair_length (bytes "root=1\nqueued=") c.in-Queued.revision c.in-Queued.argument), omega arith)
