-- `put` meets its contract: bytes that do not fit are left out, and others stand in the text, whose rest stays.
use Rattle.std.proofs.Common.{arith}
use Rattle.console_answer.proofs.Laws.{left_out, all_put_lem}
use Rattle.console_answer.proofs.Page.put.Goals as goal

pub returns-then-self-gt-ROOM : goal.returns-then-self-gt-ROOM
returns-then-self-gt-ROOM c = left_out c.args.self.now.text c.args.bytes.now c.args.self.now.place (omega arith)

pub returns-then-self-bytes : goal.returns-then-self-bytes
returns-then-self-bytes c = left_out c.args.self.now.text c.args.bytes.now c.args.self.now.place (omega arith)

pub returns : goal.returns
returns c =
    all_put_lem c.args.self.now.text c.args.bytes.now c.args.self.now.place (omega arith) _ c.copy_from_slice.ensures.after _ (omega arith)
