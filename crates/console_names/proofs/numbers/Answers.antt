-- `numbers` meets its contract: the run is as the call promises, and it is all there is exactly if it stops at the line's end.
use Rattle.std.proofs.Common.{arith}
use Rattle.console_names.proofs.Names.{other_behind, none_behind}
use Rattle.console_names.proofs.numbers.Goals as goal

pub returns-then-run-bytes : goal.returns-then-run-bytes
returns-then-run-bytes c =
    let run = c.numbers-run in
    other_behind c.args.bytes.now c.args.from c.args.n.now _ run.result run.ensures (omega arith)

pub returns : goal.returns
returns c =
    let run = c.numbers-run in
    none_behind c.args.bytes.now c.args.from c.args.n.now _ run.result run.ensures (omega arith)
